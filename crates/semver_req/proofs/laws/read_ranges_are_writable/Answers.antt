use Rattle.semver_req.proofs.OutcomesHaveIdentifiers.{piece_writable}
use Rattle.semver_req.proofs.ReadSets.{read_writable}
use Rattle.semver_req.proofs.laws.read_ranges_are_writable.Goals as goal

pub returns : goal.returns
returns c = record { pieces = λ f followed piece range read. piece_writable f followed piece range read; sets = read_writable }
