use Rattle.std.proofs.Common.{take, map}
use Rattle.serde_json.specs.View.{items_of, view}
use Rattle.deno_semver.specs.Json.{AreItemsOf, IsStringOf, IsTextOfReq}
use Rattle.deno_semver.proofs.JsonReading.{AreOnly}
use Rattle.deno_semver.proofs.json.list.reqs_from_json.Given as goal

abbrev pub invariant-loop-item : goal.invariant-loop-item
invariant-loop-item l = AreItemsOf (IsStringOf IsTextOfReq) (items_of (map view (take l.item-index l.items))) l.reqs.items × AreOnly (IsStringOf IsTextOfReq) (map view (take l.item-index l.items)) l.reqs.items
