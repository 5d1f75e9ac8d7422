-- Code 5, Kandawala, geoid heights: document 000, Table 23.21; the area is document 01's.
use Rattle.std.specs.Prelude.{List, [], ◌∷◌}
use Rattle.equation.specs.Equation.{Term, plus◌U^◌V^◌, minus◌U^◌V^◌}
use Rattle.tables.specs.Page.{Page, geoid, ◌near◌, ◌from◌, at}

abbrev pub n : List Term
n =
    minus 979 U^ 0 V^ 0
    ∷ plus 1853 U^ 1 V^ 0
    ∷ minus 3443 U^ 2 V^ 0
    ∷ plus 2523 U^ 3 V^ 0
    ∷ minus 5423 U^ 2 V^ 1
    ∷ minus 899 U^ 7 V^ 2
    ∷ minus 5278 U^ 0 V^ 3
    ∷ plus 3965 U^ 4 V^ 3
    ∷ plus 5225 U^ 2 V^ 9
    ∷ []

abbrev pub kandawala : Page
kandawala = record {
  u = 52359877 from at 7 0;
  v = 52359877 from at 80 0;
  equations = geoid (n near 504);
  south = at 5 50;
  north = at 9 55;
  west = at 79 30;
  east = at 82 0;
}
