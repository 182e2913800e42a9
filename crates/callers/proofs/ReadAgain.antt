-- What a stored requirement parses to, from the contracts of its text and of its parser.
use Rattle.std.proofs.Common.{◌≡◌, ℕ, List, Bool, true, false, None, Result, Ok, Err, sym, ap, subst, ◌∙◌}
use Rattle.std.specs.List.{list_all}
use Rattle.callers.specs.Allowance.{allowance_of, yes_or_no}
use Rattle.callers.specs.Stored.{AllowsAsBefore, IsReadAgain, IsReread, IsTagRead, IsTagReported, IsReportedOfRanges, OfRanges, OfTag}
use Rattle.callers.specs.declared.requirements.Allowance.TheVariants as answer
use Rattle.semver_base.specs.Comparators.{Comparator}
use Rattle.semver_base.specs.Meaning.{alternatives, tree_means}
use Rattle.semver_base.specs.NormalText.{set_text}
use Rattle.semver_base.specs.Shortest.{shortest_tree}
use Rattle.semver_base.specs.declared.range.PreRelease.TheVariants.{Restricted}
use Rattle.semver_base.specs.declared.range.VersionRange.{VersionRange}
use Rattle.semver_base.specs.declared.version.Version.{Version}
use Rattle.semver_req.specs.RetainedSet.{retained}
use Rattle.semver_req.specs.Outcome.{IsOutcome, Outcome, Ranges, Tag}
use Rattle.semver_req.specs.Pieces.{IsCutting}
use Rattle.semver_req.specs.Parsers.{Failure, IsReadOrTag, IsParserAnswer, StartsFit, TagReadsBack}
use Rattle.semver_req.specs.Requirement.{Requirement, inner_text}
use Rattle.semver_req.specs.Rereading.{IsReadAsForms, IsReadAsItself, IsTree, KeepsEqual, KeepsStable, KeepsTheSame, OfReadRanges, keeps_meaning}
use Rattle.semver_req.specs.declared.common.values.Flavour.{Flavour}
use Rattle.semver_req.specs.declared.common.values.Flavour.TheVariants.{Normal}
use Rattle.semver_req.specs.declared.range_set_or_tag.RangeSetOrTag.{RangeSetOrTag}
use Rattle.semver_req.specs.declared.range_set_or_tag.RangeSetOrTag.TheVariants as inner

-- ranges as what a requirement means
abbrev as_inner : List VersionRange → RangeSetOrTag
as_inner ranges = inner.RangeSet (record { 0 = ranges })

one_tree : (t u : List (List Comparator)) → Ranges t ≡ Ranges u → t ≡ u
one_tree t u e = cc e

-- a stable set is what is kept of the only tree of its text
stays_as : (f : Flavour) (ranges : List VersionRange) (tree : List (List Comparator)) → ((o : Outcome) → IsOutcome f (set_text ranges) o → o ≡ Ranges tree)
    → IsReadAsItself f ranges → retained f tree ≡ ranges
stays_as f ranges tree only s = ap (retained f) (sym (one_tree s.tree tree (only (Ranges s.tree) s.is_tree))) ∙ s.is_retained

module _ {E : Type 0} (source : E → Failure) (f : Flavour) (cut : IsCutting f) where
  of_ranges : (ranges : List VersionRange) (text : List ℕ) → text ≡ set_text ranges → IsReadAsForms text ranges → KeepsTheSame text ranges
      → KeepsEqual text ranges → KeepsStable text ranges → (req : Requirement) → IsParserAnswer source f text (Ok req) → IsReadAgain ranges req.inner
  of_ranges ranges text is forms same equal stable req h =
      let p : IsTree f text (shortest_tree ranges) = (forms f cut).0 in
      let read : req.inner ≡ as_inner (retained f (shortest_tree ranges)) = h.answer (Ranges (shortest_tree ranges)) p in
      record {
        again = retained f (shortest_tree ranges);
        is_ranges = read;
        read_set = subst IsReadOrTag read h.read_set;
        means = λ k flag v. same k f cut (shortest_tree ranges) p flag v;
        equal = λ o k. equal o k f cut (shortest_tree ranges) p;
        stable = stable f cut (shortest_tree ranges) p;
        stays = λ s. stays_as f ranges (shortest_tree ranges) (subst (λ t. (o : Outcome) → IsOutcome f t o → o ≡ Ranges (shortest_tree ranges)) is (forms f cut).1) (s f cut);
      }

  -- what the parser makes of a requirement's text
  pub of_text : (stored : RangeSetOrTag) (text : List ℕ) → text ≡ inner_text stored → OfReadRanges IsReadAsForms stored text → OfReadRanges KeepsTheSame stored text
      → OfReadRanges KeepsEqual stored text → OfReadRanges KeepsStable stored text → (r : Result Requirement E) → IsParserAnswer source f text r
      → OfRanges (IsReread source r) stored
  of_text (inner.RangeSet set) text is forms same equal stable (Ok req) h = λ k. of_ranges set.0 text is (forms k) (same k) (equal k) (stable k) req h
  of_text (inner.RangeSet set) text is forms same equal stable (Err e) h = λ k. h.answer (Ranges (shortest_tree set.0)) (forms k f cut).0
  of_text (inner.Tag tag) text is forms same equal stable r h = tt

  -- a tag parses to the tag that the parser makes of it
  pub of_tag : (stored : RangeSetOrTag) (text : List ℕ) → text ≡ inner_text stored → (r : Result Requirement E) → IsParserAnswer source f text r → OfTag f (IsTagRead source r) stored
  of_tag (inner.RangeSet set) text is r h = tt
  of_tag (inner.Tag tag) text is r h = λ t. h.answer (Tag tag) (subst (λ u. IsOutcome f u (Tag tag)) (sym is) t)

-- ---- parsed twice

-- what ranges that were parsed again parse to
again_of : (Says : List VersionRange → Type 0) {ranges : List VersionRange} {once : RangeSetOrTag} → (h : IsReadAgain ranges once) → OfRanges Says once → Says h.again
again_of Says h k = subst (OfRanges Says) h.is_ranges k h.read_set

twice_is : {ranges : List VersionRange} {once twice : RangeSetOrTag} → IsReadAgain ranges once → OfRanges (λ again. IsReadAgain again twice) once → twice ≡ once
twice_is {twice = twice} h k =
    let next : IsReadAgain h.again twice = again_of (λ again. IsReadAgain again twice) h k in
    next.is_ranges ∙ (ap as_inner (next.stays h.stable) ∙ sym h.is_ranges)

-- the second parse gives the same as the first
pub both_times : (stored once twice : RangeSetOrTag) → OfRanges (λ ranges. IsReadAgain ranges once) stored → OfRanges (λ again. IsReadAgain again twice) once
    → OfRanges (λ ranges. IsReadAgain ranges once × (twice ≡ once)) stored
both_times (inner.RangeSet set) once twice h k = λ s. (h s, twice_is (h s) k)
both_times (inner.Tag tag) once twice h k = tt

-- a failure of the second parse is one for the first parse's ranges
pub out_of_memory_is : (stored once : RangeSetOrTag) (P : Type 0) → OfRanges (λ ranges. IsReadAgain ranges once) stored → OfRanges (λ again. P) once → OfRanges (λ ranges. P) stored
out_of_memory_is (inner.RangeSet set) once P h k = λ s. again_of (λ again. P) (h s) k
out_of_memory_is (inner.Tag tag) once P h k = tt

-- ---- asked for a version

no_tag : (b : Bool) → yes_or_no b ≡ answer.Tag → ⊥
no_tag true e = cc e
no_tag false e = cc e

reported_again : (ranges : List VersionRange) (read : RangeSetOrTag) (v : Version) → IsReadAgain ranges read
    → IsReportedOfRanges (list_all keeps_meaning ranges) (tree_means (alternatives ranges) v) (allowance_of read v)
reported_again ranges read v h = subst (λ r. IsReportedOfRanges (list_all keeps_meaning ranges) (tree_means (alternatives ranges) v) (allowance_of r v)) (sym h.is_ranges)
    (no_tag _, λ keep. ap yes_or_no (h.means keep Restricted v))

-- the result for a requirement that was parsed again
pub reported_of_ranges : (stored read : RangeSetOrTag) (v : Version) → OfRanges (λ ranges. IsReadAgain ranges read) stored
    → OfRanges (λ ranges. IsReportedOfRanges (list_all keeps_meaning ranges) (tree_means (alternatives ranges) v) (allowance_of read v)) stored
reported_of_ranges (inner.RangeSet set) read v h = λ s. reported_again set.0 read v (h s)
reported_of_ranges (inner.Tag tag) read v h = tt

-- what was parsed from a text parses again, so a failure of that is out of memory
pub only_memory : {E : Type 0} (source : E → Failure) (e : E) (v : Version) (f : Flavour) (text : List ℕ) (read : RangeSetOrTag) → StartsFit f text → IsReadOrTag read
    → TagReadsBack f text read → OfRanges (AllowsAsBefore source v (Err e)) read → OfTag Normal (IsTagReported source (Err e)) read → source e ≡ None
only_memory source e v f text (inner.RangeSet set) starts retained back ranges tag = ranges retained
only_memory source e v f text (inner.Tag name) starts retained back ranges tag = tag (back starts)
