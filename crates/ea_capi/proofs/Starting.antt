-- One more source.
use Rattle.std.proofs.Common.{◌≡◌, ℕ, ◌+◌, ◌<◌, List, [], ◌∷◌, ◌++◌, length, take, get_or, refl, ap, sym, ◌∙◌, arith}
use Rattle.std.proofs.lemmas.List.{take_more, length-take-le}
use Rattle.ea_road.specs.declared.source.Source.{Source}
use Rattle.ea_capi.specs.Sessions.{starts}

starts_more : (nodes departures : List ℕ) (node departure : ℕ) → length nodes ≡ length departures → starts (nodes ++ node ∷ []) (departures ++ departure ∷ []) ≡ starts nodes departures ++ record { node = node; departure = departure } ∷ []
starts_more [] [] node departure same = refl
starts_more [] (d ∷ departures) node departure same = absurd (omega (arith, same))
starts_more (n ∷ nodes) [] node departure same = absurd (omega (arith, same))
starts_more (n ∷ nodes) (d ∷ departures) node departure same = ap (λ (rest : List Source). record { node = n; departure = d } ∷ rest) (starts_more nodes departures node departure (omega (arith, same)))

pub starts_next : (i : ℕ) (nodes departures : List ℕ) → length nodes ≡ length departures → i < length nodes → starts (take (i + 1) nodes) (take (i + 1) departures) ≡ starts (take i nodes) (take i departures) ++ record { node = get_or nodes i 0; departure = get_or departures i 0 } ∷ []
starts_next i nodes departures same lt =
    let lt' : i < length departures = omega (arith, same, lt) in
    ap (λ (ns : List ℕ). starts ns (take (i + 1) departures)) (take_more nodes i 0 lt)
    ∙ ap (starts (take i nodes ++ get_or nodes i 0 ∷ [])) (take_more departures i 0 lt')
    ∙ starts_more (take i nodes) (take i departures) (get_or nodes i 0) (get_or departures i 0) (length-take-le i nodes (omega arith) ∙ sym (length-take-le i departures (omega arith)))
