use Rattle.package_answers.proofs.names.nv_json.Goals as goal

pub returns : goal.returns
returns c = rw (c.scope_and_name.ensures.scope, c.scope_and_name.ensures.last, c.as_str.ensures.value) at (c.into_json.ensures _ (c.put.ensures _ _ (c.put_text-2.ensures _ (c.put_text.ensures _ c.new.ensures)) c.displayed_json.ensures))
