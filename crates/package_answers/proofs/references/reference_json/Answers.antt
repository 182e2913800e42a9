use Rattle.package_answers.proofs.references.reference_json.Goals as goal

pub returns : goal.returns
returns c = rw (c.path-2.ensures, c.registry.ensures, c.path.ensures) at (c.into_json.ensures _ (c.put_text-2.ensures _ (c.put-2.ensures _ _ (c.put_text.ensures _ (c.put.ensures _ _ c.new.ensures c.export_json.ensures)) c.package_json.ensures)))
