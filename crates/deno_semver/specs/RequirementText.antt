-- How a package requirement is written. Source: npm's package specifiers; the crate `deno_semver`.
use Rattle.std.specs.Prelude.{ℕ, List, [], ◌∷◌, ◌++◌, codes, if◌then◌else◌, nat_eq}
use Rattle.std.specs.Cmp.Lexicographic.{pointwise}
use Rattle.semver_base.specs.Characters.{at_sign}
use Rattle.semver_req.specs.Requirement.{inner_text}
use Rattle.deno_semver.specs.declared.package.values.PackageReq.{PackageReq}

-- `name@text`, or the name alone if the version requirement's text is `*`
abbrev pub req_text : PackageReq → List ℕ
req_text req =
    req.name ++ (if pointwise nat_eq req.version_req.raw_text (codes "*") then [] else at_sign
    ∷ req.version_req.raw_text)

-- `name@` and the version requirement's canonical form
abbrev pub normal_req_text : PackageReq → List ℕ
normal_req_text req = req.name ++ (at_sign ∷ inner_text req.version_req.inner)
