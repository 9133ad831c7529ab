use Rattle.ea_input.specs.Views.{read_of}
use Rattle.ea_input.proofs.Piecewise.{taken_up}
use Rattle.ea_input.proofs.graph_pieces.GraphReaderBlockReader.take_aside.Goals as goal

pub returns : goal.returns
returns c = taken_up read_of c.args.self.now c.args.aside c.append.new.reader c.append.result c.append.ensures
