-- Roads from lists: which timetables fit, and passing faults on.
use Rattle.std.proofs.Common.{◌≡◌, ◌∙◌, ℕ, List, ap, length, sym, subst}
use Rattle.std.specs.Prelude.{Option, Some, None, Result, Ok, Err, IfErr}
use Rattle.ea_input.specs.Table.{Table}
use Rattle.ea_travel_times.specs.Timetables.{AreFit}
use Rattle.ea_load.specs.Given.{IsTableOf}
use Rattle.ea_load.specs.declared.road.Road.{Road}
use Rattle.ea_load.proofs.Stepping.{kinds_fit, nothing_fits}
use Rattle.ea_capi.specs.declared.handle.content.Content.{Content}
use Rattle.ea_capi.specs.declared.fault_numbers.Fault.{Fault}
use Rattle.ea_capi.specs.Checks.{refused_by}
use Rattle.ea_capi.specs.Lists.{ArcLists, IsMade, made, refused, IsRoadOfLists, no_room}
use Rattle.ea_capi.specs.Roads.{IsKept, kept, no_memory}

pub table_fits : (arcs : ℕ) (text : Option (List ℕ)) (table : Table) → IsTableOf arcs text table → AreFit table.kinds table.steps
table_fits arcs None table is = subst (λ (t : Table). AreFit t.kinds t.steps) (sym is) nothing_fits
table_fits arcs (Some text) table is = kinds_fit arcs (length table.kinds) is.others table is.lists

pub on_err : {A E : Type 0} (P Q : E → Type 0) → ((e : E) → P e → Q e) → (r : Result A E) → IfErr r P → IfErr r Q
on_err P Q next (Ok a) h = tt
on_err P Q next (Err e) h = next e h

pub of_kept : (nodes : ℕ) (lists : ArcLists) (tp : List ℕ) (road : Road) (old new : Option Content) (number : ℕ) (fault : Fault) → IsRoadOfLists nodes lists tp road
    → IsKept road old new number → fault ≡ refused_by number → IsMade nodes lists tp old new fault
of_kept nodes lists tp road old new number fault is (kept there zero) told = made road is there (told ∙ ap refused_by zero)
of_kept nodes lists tp road old new number fault is (no_memory same by) told = refused (no_room is.even (told ∙ ap refused_by by)) same
