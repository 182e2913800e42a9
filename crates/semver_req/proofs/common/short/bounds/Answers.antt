use Rattle.std.proofs.Common.{◌≡◌, ◌++◌, ◌∷◌, ◌∙◌, [], ℕ, List, Some, ap, append_assoc, arith, refl, rules}
use Rattle.std.proofs.lemmas.Option.{IfSome_then}
use Rattle.std.proofs.lemmas.Str.Pattern.{strip_suffix_char}
use Rattle.semver_base.specs.Comparators.{less, primitive_kind_text}
use Rattle.semver_base.specs.PartialTable.{release_bound, release_range}
use Rattle.semver_req.specs.ShortComparators.{IsShortEnd, IsShortHyphen}
use Rattle.semver_req.specs.declared.common.values.Flavour.TheVariants.{Npm}
use Rattle.semver_req.proofs.ShortComparators.{behind_nothing, end_piece, hyphen_piece, pair_piece, parts_at, piece_wider, short_end, start_piece}
use Rattle.semver_req.proofs.common.short.bounds.Goals as goal
use Rattle.semver_req.proofs.common.short.bounds.Goals.{in-Some-after, in-None}

pub returns-then-is_empty : goal.returns-then-is_empty
returns-then-is_empty c = λ cuts.
    let kind = c.match-after.kind.0 in
    let behind = c.match-after.kind.1.now in
    let text : 60 ∷ c.in-Some.back.now ≡ primitive_kind_text (less kind) ++ behind = elim c.match-after.branch [
      | in-Some-after w ↦ rw w.kind-is (ap (λ (t : List ℕ). 60 ∷ t) w.in-Some-after.ensures)
      | in-None w ↦ rw w.kind-is refl
    ] in
    let end : IsShortEnd (60 ∷ c.in-Some.back.now) (release_bound c.in_ok-end.end) = short_end kind text (rw c.as_bytes.ensures.value at c.after_gap.ensures) c.in_ok-numbers.ensures c.in_ok-end.ensures.range in
    rw (parts_at 60 (omega arith) c.args.text.now (Some (c.in-Some.front, c.in-Some.back)) c.in-Some.ensures.cases)
    (IfSome_then c.between.result c.between.ensures.range (λ range h. piece_wider c.args.flavour cuts (behind_nothing c.in-Some.front.now c.if-is_empty.ensures (rw h.0 (end_piece end (rw c.inclusive.ensures refl) h.1)))))

pub returns-in-Some : goal.returns-in-Some
returns-in-Some c = λ cuts.
    let kind = c.match-after.kind.0 in
    let behind = c.match-after.kind.1.now in
    let text : 60 ∷ c.in-Some.back.now ≡ primitive_kind_text (less kind) ++ behind = elim c.match-after.branch [
      | in-Some-after w ↦ rw w.kind-is (ap (λ (t : List ℕ). 60 ∷ t) w.in-Some-after.ensures)
      | in-None w ↦ rw w.kind-is refl
    ] in
    let end : IsShortEnd (60 ∷ c.in-Some.back.now) (release_bound c.in_ok-end.end) = short_end kind text (rw c.as_bytes.ensures.value at c.after_gap.ensures) c.in_ok-numbers.ensures c.in_ok-end.ensures.range in
    let start = rw c.as_bytes-in-Some.ensures.value at c.in_ok-start.ensures in
    let front = c.in_ok-strip_suffix.field-0.now in
    let back = c.in-Some.back.now in
    let at_space = strip_suffix_char 32 c.in-Some.front.now (Some c.in_ok-strip_suffix.field-0) c.in_ok-strip_suffix.ensures.cases (omega arith) in
    let at_less = parts_at 60 (omega arith) c.args.text.now (Some (c.in-Some.front, c.in-Some.back)) c.in-Some.ensures.cases in
    let whole = at_less ∙ (ap (λ t. t ++ (60 ∷ back)) at_space ∙ append_assoc front (32 ∷ []) (60 ∷ back)) in
    IfSome_then c.between-in-Some.result c.between-in-Some.ensures.range (λ range h. piece_wider c.args.flavour cuts (rw h.0 (pair_piece whole start end h.1)))

pub returns : goal.returns
returns c = λ cuts.
    let npm : c.args.flavour ≡ Npm = search rules in
    let front = c.in-Some-split_once.front.now in
    let back = c.in-Some-after-3.back.now in
    let at_space = parts_at 32 (omega arith) c.args.text.now (Some (c.in-Some-split_once.front, c.in-Some-split_once.back)) c.in-Some-split_once.ensures.cases in
    let behind = ap (λ (t : List ℕ). front ++ (32 ∷ t)) (c.in-Some-after-2.ensures ∙ ap (λ (t : List ℕ). 45 ∷ t) c.in-Some-after-3.ensures) in
    let range = release_range (record { start = c.inclusive-start.result; end = Some c.in-Some-upper_bound.end }) in
    let pair : IsShortHyphen front back range = search rules in
    rw npm (hyphen_piece (at_space ∙ behind) pair)

pub returns-2 : goal.returns-2
returns-2 c = λ cuts. piece_wider c.args.flavour cuts (start_piece (rw c.as_bytes-4.ensures.value at c.in_ok-start-2.ensures))
