use Rattle.std.proofs.Common.{◌≡◌, ◌∙◌, false, get_or, rules, sym}
use Rattle.std.specs.List.{list_any}
use Rattle.std.proofs.lemmas.Iterator.{YieldsList-from_slice}
use Rattle.std.proofs.lemmas.Iterator.Search.{any_from_yields_List}
use Rattle.std.proofs.lemmas.List.Folds.{list_any_more}
use Rattle.semver_base.specs.Overlap.{overlap}
use Rattle.semver_base.proofs.range.VersionRangeSet.some_overlap.Goals as goal

pub loop-range-preserved : goal.loop-range-preserved
loop-range-preserved c =
    let range = c.range-item.result in
    let others = c.args.other.now.0 in
    let any : c.any.result ≡ list_any (λ own. overlap range own) others =
    any_from_yields_List (λ own. overlap range own) _ _ _ c.any.ensures.ran (YieldsList-from_slice others cc) (λ x b q k. search rules) in
    let none : list_any (λ own. overlap range own) others ≡ false = sym any ∙ c.if-any.false in
    let item : get_or c.args.self.now.0 c.loop-range.range-index range ≡ range = search rules in
    list_any_more (λ own. list_any (λ b. overlap own b) others) c.args.self.now.0 c.loop-range.range-index range (search rules)
    ∙ rw (c.loop-range.invariant, item) none
