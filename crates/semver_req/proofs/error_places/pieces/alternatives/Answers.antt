use Rattle.std.proofs.Common.{◌≡◌, ◌∷◌, [], refl, rules}
use Rattle.std.proofs.lemmas.Result.{IfOk-weaker}
use Rattle.semver_req.specs.Alternatives.{is_whole}
use Rattle.semver_req.specs.Pieces.{normal, npm}
use Rattle.semver_req.specs.declared.error_places.pieces.Alternative.{Alternative}
use Rattle.semver_req.proofs.Alternatives.{split_writable, strict_writable, trimmed_alternatives}
use Rattle.semver_req.proofs.error_places.pieces.alternatives.Goals as goal

pub split-requires-clause-splits : goal.split-requires-clause-splits
split-requires-clause-splits c = npm

pub split-requires-in-Normal-clause-splits : goal.split-requires-in-Normal-clause-splits
split-requires-in-Normal-clause-splits c = normal

pub returns-in-Npm-clause-are : goal.returns-in-Npm-clause-are
returns-in-Npm-clause-are c =
    rw c.in-Npm.is (IfOk-weaker c.split.result _ _ (λ all h. trimmed_alternatives c.trim_start-rest.ensures.value c.trim_start-rest.ensures.trim c.trim_end.ensures.trim h) c.split.ensures)

pub returns-in-Npm-clause-writable : goal.returns-in-Npm-clause-writable
returns-in-Npm-clause-writable c = IfOk-weaker c.split.result _ _ (λ all h. split_writable h) c.split.ensures

pub returns-in-Normal-clause-writable : goal.returns-in-Normal-clause-writable
returns-in-Normal-clause-writable c = IfOk-weaker c.split-in-Normal.result _ _ (λ all h. split_writable h) c.split-in-Normal.ensures

pub returns-in_ok-push-in-Specifier-clause-are : goal.returns-in_ok-push-in-Specifier-clause-are
returns-in_ok-push-in-Specifier-clause-are c =
    let a : Alternative = record { text = c.args.text; parsed = c.in_ok-parsed-in-Specifier.parsed } in
    let items : c.push.new.self.items ≡ a ∷ [] = search rules in
    rw (c.in-Specifier.is, items) (is_whole refl c.in_ok-parsed-in-Specifier.ensures)

pub returns-in_ok-push-in-Specifier-clause-writable : goal.returns-in_ok-push-in-Specifier-clause-writable
returns-in_ok-push-in-Specifier-clause-writable c =
    let a : Alternative = record { text = c.args.text; parsed = c.in_ok-parsed-in-Specifier.parsed } in
    let items : c.push.new.self.items ≡ a ∷ [] = search rules in
    rw items (strict_writable c.args.before c.args.text.now c.in_ok-parsed-in-Specifier.parsed c.in_ok-parsed-in-Specifier.ensures, tt)
