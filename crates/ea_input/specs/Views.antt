-- What a proof sees of a reader and of what it gives.
use Rattle.ea_input.specs.Graph.{Graph, GraphRead}
use Rattle.ea_base.specs.declared.graph.RawGraph.{RawGraph}
use Rattle.ea_input.specs.declared.graph.GraphReader.{GraphReader}

abbrev pub graph : RawGraph → Graph
graph g = record { nodes = g.nodes; arcs = g.arcs.items }

abbrev pub read_of : GraphReader → GraphRead
read_of reader = record { size = reader.size; arcs = reader.arcs.items }
