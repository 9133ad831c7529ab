use Rattle.ea_load.proofs.parallel_readers.read_graph_by.Goals as goal

pub returns-in-Ok-clause-denoted : goal.returns-in-Ok-clause-denoted
returns-in-Ok-clause-denoted g c =
    let whole = c.in-Ok.ensures.denoted in
    (whole.0, record { all = whole.1.all; few = whole.1.few; borne = whole.1.borne }, whole.2)
