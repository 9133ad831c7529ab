-- The field says only that a proof of the fact exists. An entailment is a proposition, so the proof may be opened in front of the walk that Rattle made.
use seplogic.Bi.Basic.{Entails-prop}
use mathlib.Core.Logic.{∥∥₁_elim}
use base.Logic.{via, mono_r}
use denote.Triple.Entry.{on_entry}
use borrow.Fn.Kinds.{sig_of}
use contract.Monad.{fact_mono}
use Rattle.ea_travel_times.specs.Answers.{IsFifoFunction}
use Rattle.ea_travel_times.proofs.profiles.Profiles.fifo.Statement.{statement}
use Rattle.ea_travel_times.proofs.profiles.Profiles.fifo.Lts as lts
use Rattle.ea_travel_times.proofs.profiles.Profiles.fifo.Reads as reads
use Rattle.ea_travel_times.proofs.profiles.Profiles.fifo.Tie as tie

pub fifo_spec : {M : Type 1} → statement M
fifo_spec {M} =
    tie.close (λ T L g d w met 𝓤 𝓛 𝓣 y.
    ∥∥₁_elim y.0.3.0.now.fifo (Entails-prop 𝓤.op _ _) (λ is_fifo.
    via 𝓤 _ (mono_r 𝓤 (on_entry 𝓛 (sig_of 2 (lts.ps T L g d) (lts.r T L g d)) y.0.0 y.0.1 y.0.3 y.0.4) (fact_mono 𝓤 _ (IsFifoFunction (g.may y.0.3.0.now.closure) (g.answers y.0.3.0.now.closure) y.0.3.0.now.classes) (λ _. is_fifo)))
    (lts.spec T L g d (λ κs a. IsFifoFunction (g.may a.0.now.closure) (g.answers a.0.now.closure) a.0.now.classes) (reads.Post T L g d)
    (λ c. c.requires) 𝓤 𝓛 𝓣 y)))
