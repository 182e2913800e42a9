use Rattle.std.proofs.Common.{◌≡◌, ◌≤◌, ◌<◌, ◌-◌, ◌^◌, length, take, true}
use Rattle.std.specs.Char.{is_ascii_digit}
use Rattle.std.specs.List.{list_all}
use Rattle.std.specs.Str.Parse.{digits_value}
use Rattle.semver_base.proofs.short.number.Given as goal

-- the bytes so far are digits with the value of the number so far
abbrev pub invariant-loop-len : goal.invariant-loop-len
invariant-loop-len l = record {
  in_range : l.len ≤ length l.bytes;
  pass : list_all is_ascii_digit (take l.len l.bytes) ≡ true;
  is : l.number ≡ digits_value 10 (take l.len l.bytes);
  short : l.number < 10 ^ 19;
}

abbrev pub decreases-loop-len : goal.decreases-loop-len
decreases-loop-len l = length l.bytes - l.len
