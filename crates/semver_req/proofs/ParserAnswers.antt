-- What a parser returns, from the outcome that it found.
use Rattle.std.proofs.Common.{◌≡◌, ℕ, List, Result, Ok, Err, None, refl, sym, subst, inl, inr, ◌⊎◌, IfErr, IsUtf8, IsErrAnd}
use Rattle.semver_base.specs.Meaning.{tree_means_with}
use Rattle.semver_req.specs.Outcome.{IsOutcome, Outcome, Ranges, Tag, Rejected, tree_ranges, worked_on}
use Rattle.semver_req.specs.Parsers.{Failure, HasTree, IsResultOf, IsRead, IsReading, IsReadOrTag, IsParserAnswer, MeansTrees, TagReadsBack}
use Rattle.semver_req.specs.Requirement.{Requirement, inner_means_with}
use Rattle.semver_req.specs.declared.common.values.Flavour.{Flavour}
use Rattle.semver_req.specs.declared.range_set_or_tag.RangeSetOrTag.{RangeSetOrTag}
use Rattle.semver_req.proofs.Folding.{retained_means}
use Rattle.semver_req.proofs.OneOutcome.{one_outcome}
use Rattle.semver_req.proofs.TagsReadBack.{tag_back}

module _ (f : Flavour) (text : List ℕ) where
  module _ {E : Type 0} (source : E → Failure) where
    answer_read : (req : Requirement) → IsReading f text req.inner → (o : Outcome) → IsOutcome f text o → IsResultOf source f o (Ok req)
    answer_read req h o p = go o (rw (one_outcome f text h.outcome o h.is_outcome p) at h.is_read)
      where
        go : (o : Outcome) → IsRead f o req.inner → IsResultOf source f o (Ok req)
        go (Ranges tree) k = k
        go (Tag t) k = k
        go Rejected k = absurd k

    answer_rejected : (e : E) → (source e ≡ None) ⊎ IsOutcome f text Rejected → (o : Outcome) → IsOutcome f text o → IsResultOf source f o (Err e)
    answer_rejected e (inl none) (Ranges tree) p = none
    answer_rejected e (inl none) (Tag t) p = none
    answer_rejected e h Rejected p = refl
    answer_rejected e (inr r) (Ranges tree) p = absurd (cc (one_outcome f text Rejected (Ranges tree) r p))
    answer_rejected e (inr r) (Tag t) p = absurd (cc (one_outcome f text Rejected (Tag t) r p))

  reading_means : (answer : RangeSetOrTag) → IsReading f text answer → MeansTrees f text answer
  reading_means answer h tree p flag v = go (rw (one_outcome f text h.outcome (Ranges tree) h.is_outcome p) at h.is_read)
    where
      go : IsRead f (Ranges tree) answer → inner_means_with flag answer v ≡ tree_means_with flag (tree_ranges tree) v
      go k = rw k (retained_means f tree flag v)

  reading_tree : (answer : RangeSetOrTag) → IsReading f text answer → HasTree f text answer
  reading_tree answer h = go h.outcome h.is_outcome h.is_read
    where
      go : (o : Outcome) → IsOutcome f text o → IsRead f o answer → HasTree f text answer
      go (Ranges tree) p k = subst (HasTree f text) (sym k) (tree, p, refl)
      go (Tag t) p k = subst (HasTree f text) (sym k) tt
      go Rejected p k = absurd k

  reading_set : (answer : RangeSetOrTag) → IsReading f text answer → IsReadOrTag answer
  reading_set answer h = go h.outcome h.is_outcome h.is_read
    where
      go : (o : Outcome) → IsOutcome f text o → IsRead f o answer → IsReadOrTag answer
      go (Ranges tree) p k = subst IsReadOrTag (sym k) (record { flavour = f; text = text; tree = tree; is_outcome = p; is_retained = refl })
      go (Tag t) p k = subst IsReadOrTag (sym k) tt
      go Rejected p k = absurd k

  reading_tag : IsUtf8 text → (answer : RangeSetOrTag) → IsReading f text answer → TagReadsBack f text answer
  reading_tag u answer h = go h.outcome h.is_outcome h.is_read
    where
      go : (o : Outcome) → IsOutcome f text o → IsRead f o answer → TagReadsBack f text answer
      go (Ranges tree) p k = subst (TagReadsBack f text) (sym k) tt
      go (Tag t) p k = subst (TagReadsBack f text) (sym k) (λ start. tag_back f text t u start p)
      go Rejected p k = absurd k

  -- what a text parses to
  pub answers_read : {E : Type 0} (source : E → Failure) (req : Requirement) → IsUtf8 text → IsReading f text req.inner → req.raw_text ≡ worked_on f text → IsParserAnswer source f text (Ok req)
  answers_read source req u h raw = record {
    outcome = h;
    rejected = tt;
    answer = answer_read source req h;
    means = reading_means req.inner h;
    tree = reading_tree req.inner h;
    read_set = reading_set req.inner h;
    tag = reading_tag u req.inner h;
    raw_text = raw;
  }

  -- why a text is rejected
  pub answers_rejected : {E : Type 0} (source : E → Failure) (e : E) → (source e ≡ None) ⊎ IsOutcome f text Rejected → IsParserAnswer source f text (Err e)
  answers_rejected source e h = record {
    outcome = tt;
    rejected = h;
    answer = answer_rejected source e h;
    means = tt;
    tree = tt;
    read_set = tt;
    tag = tt;
    raw_text = tt;
  }

  -- a result that reports this failure
  pub answers_err : {E : Type 0} (source : E → Failure) (r : Result Requirement E) (failure : Failure) → IsErrAnd r (λ e. source e ≡ failure) → (failure ≡ None) ⊎ IsOutcome f text Rejected → IsParserAnswer source f text r
  answers_err source (Ok req) failure is h = absurd is
  answers_err source (Err e) failure is h = answers_rejected source e (rw (sym is) at h)

-- what is true of a failure is true of the error that reports it
pub err_reports : {T E : Type 0} (source : E → Failure) (r : Result T E) (failure : Failure) (P : Failure → Type 0) → IsErrAnd r (λ e. source e ≡ failure) → P failure → IfErr r (λ e. P (source e))
err_reports source (Ok x) failure P is h = tt
err_reports source (Err e) failure P is h = rw is h
