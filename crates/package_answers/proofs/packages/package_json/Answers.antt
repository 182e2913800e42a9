use Rattle.package_answers.proofs.packages.package_json.Goals as goal

pub returns : goal.returns
returns c = rw (c.scope_and_name.ensures.scope, c.version_text.ensures, c.as_str-2.ensures.value, c.in_ok-normal.ensures.text, c.scope_and_name.ensures.last, c.as_str.ensures.value) at (c.into_json.ensures _ (c.put_text-4.ensures _ (c.put_text-3.ensures _ (c.put_text-2.ensures _ (c.put_text.ensures _ c.new.ensures)))))
