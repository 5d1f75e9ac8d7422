-- Code 6, Nahrwan, geoid heights: document 000, Table 23.27; the area is document 01's.
use Rattle.std.specs.Prelude.{List, [], ◌∷◌}
use Rattle.equation.specs.Equation.{Term, plus◌U^◌V^◌, minus◌U^◌V^◌}
use Rattle.tables.specs.Page.{Page, geoid, ◌near◌, ◌from◌, at}

abbrev pub n : List Term
n =
    plus 7464 U^ 0 V^ 0
    ∷ minus 3286 U^ 1 V^ 0
    ∷ minus 3944 U^ 2 V^ 0
    ∷ minus 2019 U^ 3 V^ 0
    ∷ minus 3024 U^ 0 V^ 1
    ∷ minus 4720 U^ 0 V^ 2
    ∷ minus 1613 U^ 0 V^ 3
    ∷ []

abbrev pub nahrwan : Page
nahrwan = record {
  u = 41887902 from at 23 0;
  v = 41887902 from at 57 0;
  equations = geoid (n near 501);
  south = at 20 0;
  north = at 26 15;
  west = at 51 0;
  east = at 59 0;
}
