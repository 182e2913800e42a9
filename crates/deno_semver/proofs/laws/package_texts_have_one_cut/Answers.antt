use Rattle.deno_semver.proofs.PackageText.{package_one}
use Rattle.deno_semver.proofs.laws.package_texts_have_one_cut.Goals as goal

pub returns : goal.returns
returns c text cut other h k = package_one cut other h k
