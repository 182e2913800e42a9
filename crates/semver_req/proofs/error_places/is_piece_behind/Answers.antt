use Rattle.std.proofs.Common.{inl, inr}
use Rattle.std.proofs.lemmas.Result.{IfOk-weaker}
use Rattle.semver_req.proofs.error_places.is_piece_behind.Goals as goal

pub returns-else-is_empty : goal.returns-else-is_empty
returns-else-is_empty c = elim c.requires [
  | inl none ↦ cc (rw none at c.if-is_empty.ensures)
  | inr h ↦
      let both = h.0.behind c.args.is_followed c.args.text.now h.1 in
      IfOk-weaker c.is_list.result _ _ (λ b k. (λ t. both.0 (k.0 t), λ p. k.1 (both.1 p))) c.is_list.ensures
]
