use Rattle.answers.proofs.errors.error_json.Goals as goal

pub returns : goal.returns
returns c = rw (c.message.ensures, c.rejection.ensures) at (c.into_json.ensures _ (c.put-3.ensures _ _ (c.put_text.ensures _ (c.put-2.ensures _ _ (c.put.ensures _ _ c.new.ensures c.from.ensures) c.expected_json.ensures)) c.from-2.ensures))
