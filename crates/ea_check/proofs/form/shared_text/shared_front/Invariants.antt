use Rattle.std.proofs.Common.{◌≡◌, ◌-◌, ◌≤◌, length, take}
use Rattle.ea_check.proofs.form.shared_text.shared_front.Given as goal

abbrev pub invariant-pieces : goal.invariant-pieces
invariant-pieces l = record {
  least : l.most ≤ length l.text;
  also : l.most ≤ length l.other;
  inside : l.len ≤ l.most;
  same : take l.len l.text ≡ take l.len l.other;
}

abbrev pub decreases-pieces : goal.decreases-pieces
decreases-pieces l = l.most - l.len
