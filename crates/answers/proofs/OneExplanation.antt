-- A text has one explanation.
use Rattle.std.proofs.Common.{◌≡◌, ◌∙◌, ◌↔◌, IsTrue, ℕ, Bool, List, [], ◌∷◌, map, Option, Result, Ok, Err, refl, sym, ap, string_bytes}
use Rattle.std.specs.Cmp.{both_ways}
use Rattle.std.specs.Str.{trim}
use Rattle.semver_base.specs.declared.range.PreRelease.{PreRelease}
use Rattle.semver_base.specs.declared.range.VersionRange.{VersionRange}
use Rattle.semver_base.specs.declared.version.Version.{Version}
use Rattle.semver_req.specs.Alternatives.{TextsHaveOneListOfAlternatives, parsed_as, reported, told}
use Rattle.semver_req.specs.AnyOrder.{TestsHaveOneLowestVersion}
use Rattle.semver_req.specs.ComparatorLists.{AlternativesHaveOneListOfComparators}
use Rattle.semver_req.specs.Outcome as outcome
use Rattle.semver_req.specs.Outcome.{IsOutcome, Outcome, Ranges, TextsHaveOneOutcome}
use Rattle.semver_req.specs.Parsers.{IsRead, IsReading}
use Rattle.semver_req.specs.Requirement.{inner_text}
use Rattle.semver_req.specs.TextRejection.{TextsAreRejectedForOneReason}
use Rattle.semver_req.specs.declared.common.values.Flavour.{Flavour}
use Rattle.semver_req.specs.declared.error_places.pieces.Alternative.{Alternative}
use Rattle.semver_req.specs.declared.error_places.pieces.Parsed.{Parsed}
use Rattle.semver_req.specs.declared.error_places.pieces.Parsed.TheVariants as parsed
use Rattle.semver_req.specs.declared.range_set_or_tag.RangeSetOrTag.{RangeSetOrTag}
use Rattle.semver_req.specs.declared.range_set_or_tag.RangeSetOrTag.TheVariants as inner
use Rattle.answers.specs.Asking.{Fault, Invalid}
use Rattle.answers.specs.ErrorLaws.{same_error_json}
use Rattle.answers.specs.Explained.{AreExplained, AreFitting, AreMatches, IsExplained, IsExplainedPiece, IsMeaningOf, IsMeaningOfRange, fitting, of_comparators, of_none, shown}
use Rattle.answers.specs.ExplainedJson.{Explains, alternative_json, explained, explained_as, invalid_range, left_out_json, meaning_json}
use Rattle.answers.specs.Reading.{IsRangeAt, not_parsed}
use Rattle.answers.specs.declared.asking.Answer.{Answer}
use Rattle.answers.specs.declared.asking.Answer.TheVariants.{Tag}
use Rattle.answers.specs.declared.asking.Kind.TheVariants as kind
use Rattle.answers.specs.declared.explained.Explanation.{Explanation}
use Rattle.answers.specs.declared.explained.Explanation.TheVariants as explanation
use Rattle.answers.specs.declared.explained.Matches.{Matches}
use Rattle.answers.specs.declared.explained.Meaning.{Meaning}
use Rattle.answers.specs.declared.explained.Meaning.TheVariants as meaning
use Rattle.answers.specs.declared.explained.Piece.{Piece}

-- ---- alternatives

abbrev matches_with : VersionRange → Option Version → Bool → Bool → Matches
matches_with range lowest of_start of_end = record { range = range; lowest = lowest; pre_of_start = of_start; pre_of_end = of_end }

same_truth : {W : Type 0} (a b : Bool) → IsTrue a ↔ W → IsTrue b ↔ W → a ≡ b
same_truth a b h k = both_ways a b (λ yes. k.1 (h.0 yes)) (λ yes. h.1 (k.0 yes))

fitting_one : AlternativesHaveOneListOfComparators → (f : Flavour) (text : List ℕ) (xs ys : List (List ℕ × VersionRange)) → AreFitting f text xs → AreFitting f text ys → xs ≡ ys
fitting_one one f text xs ys (of_comparators {items} h) (of_comparators {items = others} k) = ap fitting (one f text items others h k)
fitting_one one f text xs ys (of_comparators {items} h) (of_none none) = absurd (none items h)
fitting_one one f text xs ys (of_none none) (of_comparators {items} k) = absurd (none items k)
fitting_one one f text xs ys (of_none none) (of_none never) = refl

module _ (lowest : TestsHaveOneLowestVersion) (comparators : AlternativesHaveOneListOfComparators) (f : Flavour) (flag : PreRelease) where
  matches_one : (m n : Matches) → m.range ≡ n.range → AreMatches flag m → AreMatches flag n → m ≡ n
  matches_one m n e h k =
      let low = lowest _ m.lowest n.lowest (rw e at h.lowest) k.lowest in
      let start = same_truth m.pre_of_start n.pre_of_start (rw e at h.of_start) k.of_start in
      let end = same_truth m.pre_of_end n.pre_of_end (rw e at h.of_end) k.of_end in
      let is : matches_with m.range m.lowest m.pre_of_start m.pre_of_end ≡ matches_with n.range n.lowest n.pre_of_start n.pre_of_end = rw (e, low, start, end) refl in
      is

  range_one : (range : VersionRange) (m n : Meaning) → IsMeaningOfRange flag range m → IsMeaningOfRange flag range n → m ≡ n
  range_one range (meaning.Range m) (meaning.Range n) h k = ap meaning.Range (matches_one m n (h.0 ∙ sym k.0) h.1 k.1)
  range_one range (meaning.LeftOut e) n h k = absurd h
  range_one range (meaning.Range m) (meaning.LeftOut e) h k = absurd k

  meaning_one : (text : List ℕ) (cs : List (List ℕ × VersionRange)) (p q : Parsed) (m n : Meaning) → parsed_as p ≡ parsed_as q → IsMeaningOf flag p m → IsMeaningOf flag q n
      → meaning_json flag text cs m ≡ meaning_json flag text cs n
  meaning_one text cs (parsed.Range r) (parsed.Range s) m n e h k =
      let range : r ≡ s = cc e in
      ap (meaning_json flag text cs) (range_one s m n (rw range at h) k)
  meaning_one text cs (parsed.Range r) (parsed.Invalid d) m n e h k = absurd (cc e)
  meaning_one text cs (parsed.Invalid d) (parsed.Range s) m n e h k = absurd (cc e)
  meaning_one text cs (parsed.Invalid d) (parsed.Invalid b) m n e h k =
      let same : reported d ≡ reported b = cc e in
      ap (meaning_json flag text cs) h ∙ (ap (left_out_json text) (same_error_json d b same) ∙ sym (ap (meaning_json flag text cs) k))

  piece_one : (a b : Alternative) (p q : Piece) → told a ≡ told b → IsExplainedPiece f flag a p → IsExplainedPiece f flag b q → alternative_json flag p ≡ alternative_json flag q
  piece_one a b p q e h k =
      let text : a.text.now ≡ b.text.now = ap (λ t. t.0) e in
      let means : parsed_as a.parsed ≡ parsed_as b.parsed = ap (λ t. t.1) e in
      let same : string_bytes p.text ≡ string_bytes q.text = h.text ∙ (text ∙ sym k.text) in
      let listed : map shown p.comparators.items ≡ map shown q.comparators.items = fitting_one comparators f b.text.now _ _ (rw text at h.comparators) k.comparators in
      rw (same, listed) (meaning_one (trim (string_bytes q.text)) (map shown q.comparators.items) a.parsed b.parsed p.meaning q.meaning means h.meaning k.meaning)

  pieces_one : (xs ys : List Alternative) (ps qs : List Piece) → map told xs ≡ map told ys → AreExplained f flag xs ps → AreExplained f flag ys qs → map (alternative_json flag) ps ≡ map (alternative_json flag) qs
  pieces_one [] [] [] [] e h k = refl
  pieces_one [] ys (p ∷ ps) qs e h k = absurd h
  pieces_one xs [] ps (q ∷ qs) e h k = absurd k
  pieces_one (x ∷ xs) ys [] qs e h k = absurd h
  pieces_one xs (y ∷ ys) ps [] e h k = absurd k
  pieces_one [] (y ∷ ys) ps qs e h k = absurd (cc e)
  pieces_one (x ∷ xs) [] ps qs e h k = absurd (cc e)
  pieces_one (x ∷ xs) (y ∷ ys) (p ∷ ps) (q ∷ qs) e h k =
      let first : told x ≡ told y = cc e in
      let more : map told xs ≡ map told ys = cc e in
      let head = piece_one x y p q first h.0 k.0 in
      let tail = pieces_one xs ys ps qs more h.1 k.1 in
      cc (head, tail)

-- ---- texts

module _ (texts : TextsHaveOneOutcome) (f : Flavour) (text : List ℕ) where
  read_as : (o : Outcome) (r s : RangeSetOrTag) → IsRead f o r → IsRead f o s → r ≡ s
  read_as (Ranges tree) r s h k = h ∙ sym k
  read_as (outcome.Tag tag) r s h k = h ∙ sym k
  read_as outcome.Rejected r s h k = absurd h

  reading_one : (r s : RangeSetOrTag) → IsReading f text r → IsReading f text s → r ≡ s
  reading_one r s h k = read_as k.outcome r s (rw (texts f text h.outcome k.outcome h.is_outcome k.is_outcome) at h.is_read) k.is_read

  not_rejected : {T : Type 0} (o : Outcome) (r : RangeSetOrTag) → IsOutcome f text o → IsRead f o r → IsOutcome f text outcome.Rejected → T
  not_rejected (Ranges tree) r h k never = absurd (cc (texts f text (Ranges tree) outcome.Rejected h never))
  not_rejected (outcome.Tag tag) r h k never = absurd (cc (texts f text (outcome.Tag tag) outcome.Rejected h never))
  not_rejected outcome.Rejected r h k never = absurd k

  -- a text that is rejected isn't explained
  read_or_rejected : {T : Type 0} (r : RangeSetOrTag) (fault : Fault) → IsReading f text r → IsRangeAt f 0 text (Err fault) → T
  read_or_rejected r fault h (not_parsed some k) = not_rejected h.outcome r h.is_outcome h.is_read k.0

  fault_one : TextsAreRejectedForOneReason → (fault other : Fault) → IsRangeAt f 0 text (Err fault) → IsRangeAt f 0 text (Err other) → fault ≡ other
  fault_one reason fault other (not_parsed {failure = e} some h) (not_parsed {failure = g} more k) = ap (Invalid kind.Range 0) (reason f text e g h.1 k.1 some more)

  module _ (flag : PreRelease) (lowest : TestsHaveOneLowestVersion) (one_list : TextsHaveOneListOfAlternatives) (comparators : AlternativesHaveOneListOfComparators) where
    explanation_one : (e g : Explanation) → IsExplained f flag text e → IsExplained f flag text g → explained_as flag e ≡ explained_as flag g
    explanation_one (explanation.Tag t) (explanation.Tag u) h k =
        let same : inner.Tag t ≡ inner.Tag u = reading_one (inner.Tag t) (inner.Tag u) h k in
        ap Tag (cc same)
    explanation_one (explanation.Tag t) (explanation.Ranges ps n) h (set, r, i, is) = absurd (cc (reading_one (inner.Tag t) (inner.RangeSet set) h r))
    explanation_one (explanation.Ranges ps n) (explanation.Tag t) (set, r, i, is) k = absurd (cc (reading_one (inner.RangeSet set) (inner.Tag t) r k))
    explanation_one (explanation.Ranges ps n) (explanation.Ranges qs m) (set, r, i, is) (sets, s, j, also) =
        let normal : string_bytes n ≡ string_bytes m = is ∙ (ap inner_text (reading_one (inner.RangeSet set) (inner.RangeSet sets) r s) ∙ sym also) in
        let all = pieces_one lowest comparators f flag i.alternatives j.alternatives ps.items qs.items (one_list f 0 text i.alternatives j.alternatives i.are j.are) i.explained j.explained in
        rw (all, normal) refl

    explained_or_rejected : {T : Type 0} (e : Explanation) (fault : Fault) → IsExplained f flag text e → IsRangeAt f 0 text (Err fault) → T
    explained_or_rejected (explanation.Tag t) fault h k = read_or_rejected (inner.Tag t) fault h k
    explained_or_rejected (explanation.Ranges ps n) fault (set, r, i, is) k = read_or_rejected (inner.RangeSet set) fault r k

    pub one_explanation : TextsAreRejectedForOneReason → (o u : Result (Answer (List ℕ)) Fault) → Explains flag f text o → Explains flag f text u → o ≡ u
    one_explanation reason o u (explained e h) (explained g k) = ap Ok (explanation_one e g h k)
    one_explanation reason o u (explained e h) (invalid_range {fault} k) = explained_or_rejected e fault h k
    one_explanation reason o u (invalid_range {fault} h) (explained e k) = explained_or_rejected e fault k h
    one_explanation reason o u (invalid_range {fault} h) (invalid_range {fault = other} k) = ap Err (fault_one reason fault other h k)
