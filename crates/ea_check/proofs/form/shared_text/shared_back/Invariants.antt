use Rattle.std.proofs.Common.{◌≡◌, ◌-◌, ◌≤◌, length, drop}
use Rattle.ea_check.proofs.form.shared_text.shared_back.Given as goal

abbrev pub invariant-pieces : goal.invariant-pieces
invariant-pieces l = record {
  least : l.most ≤ length l.text;
  also : l.most ≤ length l.other;
  inside : l.len ≤ l.most;
  same : drop (length l.text - l.len) l.text ≡ drop (length l.other - l.len) l.other;
}

abbrev pub decreases-pieces : goal.decreases-pieces
decreases-pieces l = l.most - l.len
