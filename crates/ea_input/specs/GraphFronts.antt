-- The meaning of a line of a graph is in its first seven fields.
use Rattle.std.specs.Prelude.{◌≡◌, ℕ, List, [], ◌∷◌, take, length, refl, Option, Some, None}
use Rattle.ea_input.specs.Graph.{GraphRead, size_of, problem_of, arc_of, problem_line, arc_line, graph_line, graph_step}
use Rattle.ea_input.specs.declared.graph.GraphSize.{GraphSize}

size_of-front : (fields : List (List ℕ)) → size_of (take 5 fields) ≡ size_of fields
unfolding size_of
size_of-front [] = refl
size_of-front (n ∷ []) = refl
size_of-front (n ∷ m ∷ []) = refl
size_of-front (n ∷ m ∷ x ∷ rest) = refl

problem_of-front : (fields : List (List ℕ)) → problem_of (take 6 fields) ≡ problem_of fields
unfolding problem_of
problem_of-front [] = refl
problem_of-front (kind ∷ fields) = rw (size_of-front fields) refl

arc_of-front : (nodes : ℕ) (fields : List (List ℕ)) → arc_of nodes (take 6 fields) ≡ arc_of nodes fields
unfolding arc_of
arc_of-front nodes [] = refl
arc_of-front nodes (u ∷ []) = refl
arc_of-front nodes (u ∷ v ∷ []) = refl
arc_of-front nodes (u ∷ v ∷ w ∷ []) = refl
arc_of-front nodes (u ∷ v ∷ w ∷ x ∷ rest) = refl

problem_line-front : (size : Option GraphSize) (fields : List (List ℕ)) → problem_line size (take 6 fields) ≡ problem_line size fields
unfolding problem_line
problem_line-front (Some size) fields = refl
problem_line-front None fields = rw (problem_of-front fields) refl

arc_line-front : (size : Option GraphSize) (count : ℕ) (fields : List (List ℕ)) → arc_line size count (take 6 fields) ≡ arc_line size count fields
unfolding arc_line
arc_line-front None count fields = refl
arc_line-front (Some size) count fields = rw (arc_of-front size.nodes fields) refl

graph_line-front : (size : Option GraphSize) (count : ℕ) (fields : List (List ℕ)) → graph_line size count (take 7 fields) ≡ graph_line size count fields
unfolding graph_line
graph_line-front size count [] = refl
graph_line-front size count (word ∷ fields) = rw (problem_line-front size fields, arc_line-front size count fields) refl

pub graph_step-front : (read : GraphRead) (fields : List (List ℕ)) → graph_step read (take 7 fields) ≡ graph_step read fields
unfolding graph_step
graph_step-front read fields = rw (graph_line-front read.size (length read.arcs) fields) refl
