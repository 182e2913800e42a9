-- Neither a canonical form nor a tag contains what separates a requirement from the rest of the text of a package.
use Rattle.std.proofs.Common.{◌≡◌, ◌==◌, ℕ, true, refl, arith, not}
use Rattle.std.proofs.lemmas.Bool.Decides.{nat_tests}
use Rattle.semver_base.specs.SolidLaws.{is_solid_byte}
use Rattle.semver_req.specs.Rereading.{NormalTextsHoldNoSeparator, TagsHoldNoSeparator}
use Rattle.semver_req.proofs.ReadSets.{read_writable}
use Rattle.semver_req.proofs.TagCharacters.{at_no_tag, slash_no_tag}
use Rattle.semver_req.proofs.TagTexts.{tag_without}
use Rattle.semver_req.proofs.TagsReadBack.{tag_valid}
use Rattle.semver_req.proofs.WrittenSets.{set_passes}

solid_no_at : (b : ℕ) → is_solid_byte b ≡ true → not (b == 64) ≡ true
solid_no_at b h = grind (arith, nat_tests)

solid_no_slash : (b : ℕ) → is_solid_byte b ≡ true → not (b == 47) ≡ true
solid_no_slash b h = grind (arith, nat_tests)

pub set_separates : NormalTextsHoldNoSeparator
set_separates ranges h = record {
  no_at = set_passes (λ b. not (b == 64)) solid_no_at refl refl ranges (read_writable ranges h);
  no_slash = set_passes (λ b. not (b == 47)) solid_no_slash refl refl ranges (read_writable ranges h);
}

pub tag_separates : TagsHoldNoSeparator
tag_separates f text t u start is =
    let v = tag_valid f text t u start is in
    record { no_at = tag_without t v.0 v.1 64 (omega arith) at_no_tag; no_slash = tag_without t v.0 v.1 47 (omega arith) slash_no_tag }
