use Rattle.std.proofs.Common.{ℕ, List, ap, refl}
use Rattle.std.specs.Prelude.{Option}
use Rattle.ea_load.specs.declared.road.Road.{Road}
use Rattle.ea_load.specs.declared.file_fault.FileFault.TheVariants.{OutOfMemory}
use Rattle.ea_base.specs.declared.direction.Direction.TheVariants.{Forward}
use Rattle.ea_load.specs.Given.{Given, Denotes, IsRoadOf}
use Rattle.ea_load.specs.Texts.{in_graph, text_if_any}
use Rattle.ea_capi.specs.declared.handle.content.Content.{Content}
use Rattle.ea_capi.specs.declared.fault_numbers.Fault.{Fault}
use Rattle.ea_capi.specs.Roads.{IsRead, read, refused, IsKept, kept, no_memory}
use Rattle.ea_capi.proofs.road.roads.earliest_road_read.Goals as goal

abbrev numbered : ℕ → Fault
numbered number = record { line = 0; number = number; text = 0 }

of_kept : (gr tp : List ℕ) (given : Given) (road : Road) (old new : Option Content) (number : ℕ) → Denotes gr (text_if_any tp) given → IsRoadOf Forward given road → IsKept road old new number → IsRead gr tp old new (numbered number) number
of_kept gr tp given road old new number denotes is (kept there zero) = read given road denotes is there (ap numbered zero) zero
of_kept gr tp given road old new number denotes is (no_memory same refused_by) = refused OutOfMemory (in_graph tt) (ap numbered refused_by) refused_by same

pub returns-in-Ok : goal.returns-in-Ok
returns-in-Ok c =
    let found = c.in-Ok.ensures.road in
    of_kept c.args.gr.now c.args.tp.now found.0 c.in-Ok.found c.args.road.now.value c.keep-number.new.handle.value c.keep-number.result found.1 found.2 c.keep-number.ensures

pub returns-in-Err : goal.returns-in-Err
returns-in-Err c = refused c.in-Err.found c.in-Err.ensures.fault c.tell.ensures (ap (λ (fault : Fault). fault.number) c.tell.ensures) refl
