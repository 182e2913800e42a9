-- What is returned to C, from the results of questions.
use Rattle.std.proofs.Common.{◌≡◌, ℕ, List, Option, Some, None, Result, Ok, Err, IfOk, IsErrAnd, MatchResult, refl, sym, ap, subst, ◌∙◌, inl, inr, ◌⊎◌, ℤ}
use Rattle.std.proofs.lemmas.Result.{err_from_is_err_and}
use Rattle.semver_base.specs.declared.range.PreRelease.{PreRelease}
use Rattle.semver_base.specs.declared.version.Version.{Version}
use Rattle.semver_req.specs.Requirement.{inner_means_with, tag_of}
use Rattle.semver_req.specs.declared.range_set_or_tag.RangeSetOrTag.{RangeSetOrTag}
use Rattle.semver_req.specs.declared.range_set_or_tag.RangeSetOrTag.TheVariants as inner
use Rattle.semver_req.specs.Resolve.{IsBestMatch, IsOnlyMatch}
use Rattle.answers.specs.Filtering.{better_line, line_passes}
use Rattle.answers.specs.Sorting.{AreOnlySortedPlaces, AreSortedPlaces, SortedLines, standing_lines}
use Rattle.answers.specs.declared.asking.Problem.TheVariants as unanswered
use Rattle.answers.specs.declared.questions.End.{End}
use Rattle.answers.specs.declared.sorting.Order.TheVariants.{Ascending}
use Rattle.semver_c.specs.Codes.{IsCode, IsPlaceReply, IsReply, IsReported, Reports, always_yes, code_of, no_memory, no_place, or_message, place_after}
use Rattle.semver_c.specs.Arguments.{CallFault, IsCallAnswer, memory, call_outcome, problem_place}
use Rattle.semver_c.specs.Held.{IsHeldReport, IsListBest, is_held, out_of_memory}
use Rattle.semver_c.specs.declared.handles.Held.{Held}
use Rattle.semver_c.specs.declared.arguments.Problem.{Problem}
use Rattle.semver_c.specs.declared.arguments.Problem.TheVariants as problem
use Rattle.semver_c.specs.declared.codes.Code.{Code}
use Rattle.semver_c.specs.declared.codes.Code.TheVariants as code

-- a result without a place of its own
pub unplaced : {E X : Type 0} (value : E → X) (answer : Result E Problem) (old new : ℕ) → new ≡ problem_place answer old → new ≡ place_after no_place (call_outcome value answer) old
unplaced value (Ok e) old new is = is
unplaced value (Err p) old new is = is

module _ {E X : Type 0} (Asked : Result X CallFault → Type 0) (value : E → X) (answer : Result E Problem) (h : IsCallAnswer Asked value answer) where
  -- ---- codes and texts

  module _ (coded : X → Code) where
    pub coded_reply : (code : ℤ) → code ≡ code_of coded (call_outcome value answer) → IsCode Asked coded code
    coded_reply code e = record { is = is h.is; only = λ o a. only o (h.only o a) }
      where
        is : (call_outcome value answer ≡ Err memory) ⊎ Asked (call_outcome value answer) → (code ≡ no_memory) ⊎ ((o : Result X CallFault) × Asked o × (code ≡ code_of coded o))
        is (inl none) = inl (e ∙ ap (code_of coded) none)
        is (inr a) = inr (call_outcome value answer, a, e)

        only : (o : Result X CallFault) → (call_outcome value answer ≡ Err memory) ⊎ (call_outcome value answer ≡ o) → (code ≡ no_memory) ⊎ (code ≡ code_of coded o)
        only o (inl none) = inl (e ∙ ap (code_of coded) none)
        only o (inr is) = inr (e ∙ ap (code_of coded) is)

    module _ {I : Type 0} (shown : Result X CallFault → List I) (old new : List I) (needed : ℕ) (code : ℤ) (t : IsReported coded shown (call_outcome value answer) old new needed code) where
      memory_reported : call_outcome value answer ≡ Err memory → Reports coded shown (call_outcome value answer) code t.items → code ≡ no_memory
      memory_reported none (inl short) = short
      memory_reported none (inr reported) = reported.0 ∙ ap (code_of coded) none

      pub memory_code : call_outcome value answer ≡ Err memory → code ≡ no_memory
      memory_code none = memory_reported none t.reports

      pub replied : IsReply Asked coded shown old new needed code
      replied = record { items = t.items; placed_is = t.placed_is; is = is h.is t.reports; only = λ o a. only o (h.only o a) t.reports }
        where
          Reported : Result X CallFault → Type 0
          Reported o = Reports coded shown o code t.items

          is : (call_outcome value answer ≡ Err memory) ⊎ Asked (call_outcome value answer) → Reports coded shown (call_outcome value answer) code t.items
              → (code ≡ no_memory) ⊎ ((o : Result X CallFault) × Asked o × Reports coded shown o code t.items)
          is (inl none) reported = inl (memory_reported none reported)
          is (inr a) reported = inr (call_outcome value answer, a, reported)

          only : (o : Result X CallFault) → (call_outcome value answer ≡ Err memory) ⊎ (call_outcome value answer ≡ o) → Reports coded shown (call_outcome value answer) code t.items
              → Reports coded shown o code t.items
          only o (inl none) reported = inl (memory_reported none reported)
          only o (inr is) reported = subst Reported is reported

  -- ---- places

  module _ (given : X → ℕ → ℕ) (old new : ℕ) (code : ℤ) (out : call_outcome value answer ≡ Err memory → code ≡ no_memory) where
    pub placed_reply : new ≡ place_after given (call_outcome value answer) old → IsPlaceReply Asked given old new code
    placed_reply e = record { is = is h.is; only = λ o a. only o (h.only o a) }
      where
        none_placed : call_outcome value answer ≡ Err memory → (code ≡ no_memory) × (new ≡ old)
        none_placed none = (out none, e ∙ ap (λ (o : Result X CallFault). place_after given o old) none)

        is : (call_outcome value answer ≡ Err memory) ⊎ Asked (call_outcome value answer)
            → ((code ≡ no_memory) × (new ≡ old)) ⊎ ((o : Result X CallFault) × Asked o × (new ≡ place_after given o old))
        is (inl none) = inl (none_placed none)
        is (inr a) = inr (call_outcome value answer, a, e)

        only : (o : Result X CallFault) → (call_outcome value answer ≡ Err memory) ⊎ (call_outcome value answer ≡ o)
            → ((code ≡ no_memory) × (new ≡ old)) ⊎ (new ≡ place_after given o old)
        only o (inl none) = inl (none_placed none)
        only o (inr is) = inr (e ∙ ap (λ (p : Result X CallFault). place_after given p old) is)

-- ---- what handles hold

-- the text of a value that is held is placed
pub placed_text : {value : Held} {text : List ℕ} {old new : Option Held} {before after : List ℕ} {needed : ℕ} {code : ℤ} → IsHeldReport value text old new before after needed code
    → {X : Type 0} (shown : X → List ℕ) (x : X) → text ≡ shown x → IsReported always_yes (or_message shown) (Ok x) before after needed code
placed_text {text = text} (is_held n t c) shown x e = record { items = text; placed_is = t; reports = inr (c, e) }
placed_text (out_of_memory message n t c) shown x e = record { items = message; placed_is = t; reports = inl c }

-- ---- a list that is held

abbrev answered : List ℕ → Result (List ℕ) CallFault
answered places = Ok places

-- how it is sorted
pub sorted_reply : {V E : Type 0} (items : V → List ℕ) (P : E → Problem → Type 0) (lines : List (Option Version)) (found : Result V E) (answer : Result V Problem)
    → IfOk found (λ v. AreSortedPlaces Ascending (standing_lines 0 lines) (items v)) → IfOk found (λ v. AreOnlySortedPlaces Ascending (standing_lines 0 lines) (items v))
    → MatchResult found (λ v. answer ≡ Ok v) (λ e. IsErrAnd answer (P e)) → ((e : E) (p : Problem) → P e p → p ≡ problem.Unanswered unanswered.OutOfMemory)
    → IsCallAnswer (SortedLines Ascending lines) items answer
sorted_reply items P lines (Ok v) answer sorted only is made = rw is (record { is = inr (items v, sorted, refl); only = λ o a. inr (ap answered (sym (only a.0 a.1)) ∙ sym a.2) })
sorted_reply items P lines (Err e) answer sorted only is made =
    let p = err_from_is_err_and answer is in
    rw (p.1, made e p.0 p.2) (record { is = inl refl; only = λ o a. inl refl })

-- ---- the best match of a list that is held

-- a line that is found
pub found_reply : (end : End) (flag : PreRelease) (read : RangeSetOrTag) (lines : List (Option Version)) (old found : ℕ) → tag_of read ≡ None
    → IsBestMatch (better_line end) (line_passes (inner_means_with flag read)) lines (Some found) → IsOnlyMatch (better_line end) (line_passes (inner_means_with flag read)) lines (Some found)
    → IsListBest end flag read lines old found code.Yes
found_reply end flag (inner.RangeSet set) lines old found none h only = record { best = Some found; is = h; only = only; returned_is = refl; new_is = refl }
found_reply end flag (inner.Tag tag) lines old found none h only = absurd (cc none)
