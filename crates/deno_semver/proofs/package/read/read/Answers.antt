use Rattle.std.proofs.Common.{◌∙◌, refl, rules}
use Rattle.deno_semver.specs.ReferenceReading.{IsReadWithPath}
use Rattle.deno_semver.proofs.PackageFaults.{front_error, no_path, path_fault, uncut_error, version_error}
use Rattle.deno_semver.proofs.Runs.{none_left, some_left}
use Rattle.deno_semver.proofs.package.read.read.Goals as goal

pub returns-in-Err : goal.returns-in-Err
returns-in-Err c = front_error c.args.flavour c.args.text.now (uncut_error c.args.flavour c.args.text.now c.in-Err.ensures.uncut)

pub returns-in-Err-req_of : goal.returns-in-Err-req_of
returns-in-Err-req_of c =
    front_error c.args.flavour c.args.text.now (version_error c.args.flavour c.args.text.now _ c.in-Ok.ensures.cut.parts c.in-Err-req_of.ensures.rejected)

pub returns-then-is_empty : goal.returns-then-is_empty
returns-then-is_empty c =
    let read : IsReadWithPath c.args.flavour c.args.text.now _ _ _ = record { cut = _; is_cut = c.in-Ok.ensures.cut.parts; name = c.in-Ok-req_of.ensures.name ∙ c.in-Ok.ensures.cut.name_is; version_req = c.in-Ok-req_of.ensures.version; path_is = refl; tail_is = c.in-Ok.ensures.cut.path_is } in
    no_path c.args.flavour c.args.text.now read (none_left _ _ c.is_empty.ensures c.if-is_empty.true)

pub returns : goal.returns
returns c =
    let read : IsReadWithPath c.args.flavour c.args.text.now _ _ _ = record { cut = _; is_cut = c.in-Ok.ensures.cut.parts; name = c.in-Ok-req_of.ensures.name ∙ c.in-Ok.ensures.cut.name_is; version_req = c.in-Ok-req_of.ensures.version; path_is = refl; tail_is = c.in-Ok.ensures.cut.path_is } in
    path_fault c.args.flavour c.args.text.now read (some_left _ _ c.is_empty.ensures c.if-is_empty.false) (search rules)
