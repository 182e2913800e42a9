use Rattle.std.proofs.Common.{◌++◌, sym, ap, ◌∙◌, append_assoc}
use Rattle.std.proofs.lemmas.Result.{IfOk-weaker}
use Rattle.semver_req.proofs.ListedFronts.{behind_before, no_bars_before}
use Rattle.semver_req.proofs.ViableParts.{before_piece}
use Rattle.semver_req.proofs.error_places.is_piece_before.Goals as goal

pub is_piece_behind-requires : goal.is_piece_behind-requires
is_piece_behind-requires c =
    let k = c.in-Some.ensures.cases in
    behind_before c.args.flavour c.args.sizes c.args.front.now c.args.prefix.now c.args.bars.now _ c.requires.bars (k.1.1 ∙ ap (λ t. t ++ c.args.bars.now) (sym k.2)) c.requires.behind

pub returns-in-Some : goal.returns-in-Some
returns-in-Some c =
    let k = c.in-Some.ensures.cases in
    let whole = ap (λ t. c.args.front.now ++ t) (k.1.1 ∙ ap (λ t. t ++ c.args.bars.now) (sym k.2)) ∙ sym (append_assoc c.args.front.now _ c.args.bars.now) in
    IfOk-weaker c.is_piece_behind.result _ _ (before_piece c.args.flavour c.args.sizes _ _ _ whole) c.is_piece_behind.ensures

pub returns-in-None : goal.returns-in-None
returns-in-None c = (λ t. cc t, λ h. absurd (no_bars_before c.args.flavour c.args.sizes c.args.front.now c.args.prefix.now c.args.bars.now c.requires.bars c.in-None.ensures.cases c.requires.behind h.0 h.1))
