-- The JSON of errors and explanations.
use Rattle.std.proofs.Common.{◌≡◌, ◌∙◌, ◌++◌, ℕ, Bool, true, false, List, [], ◌∷◌, Err, Result, ap, append-nil, inl, inr, map, refl, subst, sym, ◌⊎◌, codes, if◌then◌else◌}
use Rattle.serde_json.specs.Data.{Data, string}
use Rattle.semver_base.specs.declared.range.PreRelease.{PreRelease}
use Rattle.semver_req.specs.declared.common.values.Flavour.{Flavour}
use Rattle.semver_req.specs.declared.error_places.expected.Expected.{Expected}
use Rattle.semver_req.specs.declared.error_places.expected.Kind.{Kind}
use Rattle.answers.specs.Asking.{Fault, OutOfMemory}
use Rattle.answers.specs.Errors.{expected_names, kind_name}
use Rattle.answers.specs.ExplainedJson.{Explains, invalid_range}
use Rattle.answers.specs.Reading.{IsRangeAt}
use Rattle.answers.specs.declared.asking.Answer.{Answer}

-- names of kinds, and more texts
pub named : (kinds : List Kind) (more : List (List ℕ)) → map string (map kind_name kinds ++ more) ≡ map (λ kind. string (kind_name kind)) kinds ++ map string more
named [] more = refl
named (kind ∷ kinds) more = ap (λ t. string (kind_name kind) ∷ t) (named kinds more)

ends : (b : Bool) → map string (if b then codes "end" ∷ [] else []) ≡ (if b then string (codes "end") ∷ [] else [])
ends true = refl
ends false = refl

-- what is expected, from the JSON of the kinds
pub names_all : (e : Expected) (items : List Data) → items ≡ map (λ kind. string (kind_name kind)) e.kinds.items ++ (if e.may_end then string (codes "end") ∷ [] else []) → items ≡ map string (expected_names e)
names_all e items h = h ∙ ap (λ more. map (λ kind. string (kind_name kind)) e.kinds.items ++ more) (sym (ends e.may_end)) ∙ sym (named e.kinds.items (if e.may_end then codes "end" ∷ [] else []))

pub no_end : (e : Expected) (items : List Data) → items ≡ map (λ kind. string (kind_name kind)) e.kinds.items → e.may_end ≡ false → items ≡ map string (expected_names e)
no_end e items h isnt = names_all e items (rw isnt (h ∙ sym (append-nil (map (λ kind. string (kind_name kind)) e.kinds.items))))

pub with_end : (e : Expected) (names : List Data) (items : List Data) → names ≡ map (λ kind. string (kind_name kind)) e.kinds.items → items ≡ names ++ string (codes "end") ∷ [] → e.may_end ≡ true → items ≡ map string (expected_names e)
with_end e names items h added is = names_all e items (rw is (added ∙ ap (λ all. all ++ string (codes "end") ∷ []) h))

-- an explanation that failed
pub not_explained : (flag : PreRelease) (f : Flavour) (text : List ℕ) (fault : Fault) (outcome : Result (Answer (List ℕ)) Fault) → outcome ≡ Err fault → (fault ≡ OutOfMemory) ⊎ IsRangeAt f 0 text (Err fault)
    → (outcome ≡ Err OutOfMemory) ⊎ Explains flag f text outcome
not_explained flag f text fault outcome is (inl e) = inl (is ∙ ap Err e)
not_explained flag f text fault outcome is (inr h) = inr (subst (Explains flag f text) (sym is) (invalid_range h))
