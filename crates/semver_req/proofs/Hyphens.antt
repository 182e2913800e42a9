-- Leading hyphen ranges.
use Rattle.std.proofs.Common.{◌≡◌, ℕ, false, List, ◌∷◌, length, ◌==◌, Option, Some, None, ap₂}
use Rattle.semver_base.specs.Comparators.{Comparator}
use Rattle.semver_base.specs.Grammar.{HasNone, IsLongest, IsSeen, ReadsAs}
use Rattle.semver_base.specs.Lexical.{IsWhitespace, IsSomeWhitespace}
use Rattle.semver_base.specs.declared.lexical.values.Measured.{Measured}
use Rattle.semver_base.specs.declared.partial.Partial.{Partial}
use Rattle.semver_base.specs.GrammarLaws.{followed, followed_none_second, joined_none_first, mapped, mapped_none, prefixed_none, prefixed_other, prefixed_some}
use Rattle.semver_req.specs.Partials.{IsPartial, sized_partial}
use Rattle.semver_req.specs.PieceSteps.{sized_hyphen}
use Rattle.semver_req.specs.Pieces.{IsHyphen, IsHyphened, IsHyphenPair, IsUpper}
use Rattle.semver_req.specs.declared.common.values.Flavour.TheVariants.{Npm}
use Rattle.semver_req.proofs.GrammarFacts.{whitespace_hyphen, whitespace_upper, partial_whitespace, partial_hyphened}
use Rattle.semver_req.proofs.PiecesRead.{more_follows, none_whole}

-- ---- at the start of a text

pub upper_read : {text rest end : List ℕ} {answer : Measured Partial} → IsSeen sized_partial (IsPartial Npm) text answer rest → IsLongest IsWhitespace rest tt end → IsSeen sized_partial IsUpper text answer end
upper_read h b = record { value = h.value; longest = mapped (followed partial_whitespace h.longest b); seen = h.seen }

pub no_whitespace_before : {text : List ℕ} → HasNone IsSomeWhitespace text → HasNone IsHyphened text
no_whitespace_before n = mapped_none (joined_none_first n)

module _ {text middle : List ℕ} (b : IsLongest IsSomeWhitespace text tt middle) where
  pub no_hyphen_operator : ((rest : List ℕ) → middle ≡ 45 ∷ rest → ⊥) → HasNone IsHyphened text
  no_hyphen_operator other = mapped_none (followed_none_second whitespace_hyphen b (prefixed_other other))

  module _ {after : List ℕ} (e : middle ≡ 45 ∷ after) where
    pub no_whitespace_after : HasNone IsSomeWhitespace after → HasNone IsHyphened text
    no_whitespace_after n = mapped_none (followed_none_second whitespace_hyphen b (prefixed_none e (mapped_none (joined_none_first n))))

    pub hyphened_read : {start : List ℕ} (r : Option (Measured Partial × List ℕ)) → IsLongest IsSomeWhitespace after tt start → ReadsAs sized_partial IsUpper start r → ReadsAs sized_partial IsHyphened text r
    hyphened_read None c n = mapped_none (followed_none_second whitespace_hyphen b (prefixed_none e (mapped_none (followed_none_second whitespace_upper c n))))
    hyphened_read (Some p) c h = record { value = h.value; longest = mapped (followed whitespace_hyphen b (prefixed_some e (mapped (followed whitespace_upper c h.longest)))); seen = h.seen }

pub pair_read : {text middle rest : List ℕ} {lower upper : Measured Partial} → IsSeen sized_partial (IsPartial Npm) text lower middle → IsSeen sized_partial IsHyphened middle upper rest → IsSeen sized_hyphen IsHyphenPair text (record { lower = lower; upper = upper }) rest
pair_read p q = record { value = (p.value, q.value); longest = followed partial_hyphened p.longest q.longest; seen = ap₂ (λ (x y : Measured Partial). record { lower = x; upper = y }) p.seen q.seen }

pub pair_none : {text middle : List ℕ} {lower : Measured Partial} → IsSeen sized_partial (IsPartial Npm) text lower middle → HasNone IsHyphened middle → HasNone IsHyphenPair text
pair_none p n = followed_none_second partial_hyphened p.longest n

pub no_pair : {piece : List ℕ} → HasNone IsHyphenPair piece → (cs : List Comparator) → IsHyphen piece cs → ⊥
no_pair n cs h = none_whole n h.value h.stands

pub follows_pair : {piece rest : List ℕ} {v : Partial × Partial} → IsLongest IsHyphenPair piece v rest → (length rest == 0) ≡ false → (cs : List Comparator) → IsHyphen piece cs → ⊥
follows_pair p full cs h = more_follows p full h.value h.stands
