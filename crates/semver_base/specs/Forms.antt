-- The forms in which a range with two bounds is printed, as comparators.
use Rattle.std.specs.Prelude.{List, [], ◌∷◌}
use Rattle.semver_base.specs.Comparators.{Caret, Comparator, Bare, Tilde}
use Rattle.semver_base.specs.Shortest.{ending, numbered, starting, whole}
use Rattle.semver_base.specs.declared.partial.XRange.TheVariants.{Wildcard, Val}
use Rattle.semver_base.specs.declared.range.VersionBoundKind.{VersionBoundKind}
use Rattle.semver_base.specs.declared.range.display.Form.{Form}
use Rattle.semver_base.specs.declared.range.display.Form.TheVariants as form
use Rattle.semver_base.specs.declared.version.Version.{Version}

-- the comparators of a form, from a start s of the kind k to an end e of the kind l
abbrev pub form_comparators : Form → VersionBoundKind → VersionBoundKind → Version → Version → List Comparator
form_comparators form.Whole k l s e = Bare (whole s) ∷ []
form_comparators form.Major k l s e = Bare (numbered (Val s.major) Wildcard) ∷ []
form_comparators form.Minor k l s e = Bare (numbered (Val s.major) (Val s.minor)) ∷ []
form_comparators form.Tilde k l s e = Tilde (whole s) ∷ []
form_comparators form.Caret k l s e = Caret (whole s) ∷ []
form_comparators form.End k l s e = ending l e ∷ []
form_comparators form.Both k l s e = starting k s ∷ ending l e ∷ []
