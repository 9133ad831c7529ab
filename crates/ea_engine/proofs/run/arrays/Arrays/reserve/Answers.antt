use Rattle.ea_engine.proofs.run.arrays.Arrays.reserve.Goals as goal

pub returns : goal.returns
returns g c = record {
  nodes_are = c.in_ok-labels.ensures.nodes;
  heaps_are = c.in_ok-pool.ensures.heaps_are;
  reserved = record {
    seats_new = record {
      fit = record { labels = c.in_ok-labels.ensures.seat.0; pool = c.in_ok-pool.ensures.of_pool };
      history = c.in_ok-labels.ensures.seat.1;
      account = c.in_ok-pool.ensures.account;
    };
    todo_nodes = c.in_ok-todo.ensures.0;
    todo_waiting = c.in_ok-todo.ensures.1;
    room = c.in_ok-rooms.ensures.rooms_are;
  };
  todo_walks = c.in_ok-todo.ensures.2;
  results = c.in_ok-rooms.ensures.results;
}
