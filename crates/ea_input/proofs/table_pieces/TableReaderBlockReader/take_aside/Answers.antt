use Rattle.ea_input.specs.TableViews.{read_of}
use Rattle.ea_input.proofs.TablePiecewise.{taken_up}
use Rattle.ea_input.proofs.table_pieces.TableReaderBlockReader.take_aside.Goals as goal

pub returns : goal.returns
returns c = taken_up read_of c.args.self.now c.args.aside c.append.new.reader c.append.result c.append.ensures
