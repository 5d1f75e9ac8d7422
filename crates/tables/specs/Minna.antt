-- Code 2, Minna: document 000, Table 20.29; the area is document 01's.
use Rattle.std.specs.Prelude.{List, [], ◌∷◌}
use Rattle.equation.specs.Equation.{Term, plus◌U^◌V^◌, minus◌U^◌V^◌}
use Rattle.tables.specs.Page.{Page, shift, ◌near◌, ◌from◌, at}

abbrev pub d_lat : List Term
d_lat =
    plus 49461 U^ 0 V^ 0
    ∷ minus 69094 U^ 1 V^ 0
    ∷ minus 744709 U^ 3 V^ 0
    ∷ plus 1435602 U^ 5 V^ 0
    ∷ plus 618524 U^ 6 V^ 0
    ∷ plus 39940 U^ 0 V^ 1
    ∷ minus 182129 U^ 2 V^ 1
    ∷ plus 570789 U^ 3 V^ 1
    ∷ minus 292752 U^ 1 V^ 2
    ∷ minus 210838 U^ 2 V^ 2
    ∷ plus 4852705 U^ 7 V^ 2
    ∷ minus 688780 U^ 1 V^ 3
    ∷ plus 510389 U^ 1 V^ 4
    ∷ plus 862320 U^ 1 V^ 5
    ∷ minus 1139331 U^ 4 V^ 8
    ∷ minus 49769 U^ 0 V^ 9
    ∷ []

abbrev pub d_lon : List Term
d_lon =
    minus 262435 U^ 0 V^ 0
    ∷ minus 21876 U^ 1 V^ 0
    ∷ plus 43678 U^ 0 V^ 1
    ∷ plus 35068 U^ 1 V^ 1
    ∷ minus 153864 U^ 2 V^ 1
    ∷ plus 220240 U^ 4 V^ 1
    ∷ minus 46268 U^ 1 V^ 3
    ∷ plus 159485 U^ 3 V^ 4
    ∷ minus 11456 U^ 0 V^ 5
    ∷ []

abbrev pub d_h : List Term
d_h =
    plus 20013 U^ 0 V^ 0
    ∷ plus 2098 U^ 1 V^ 0
    ∷ minus 11691 U^ 0 V^ 1
    ∷ plus 47983 U^ 2 V^ 1
    ∷ minus 60195 U^ 4 V^ 1
    ∷ minus 12588 U^ 5 V^ 1
    ∷ minus 21214 U^ 2 V^ 3
    ∷ plus 8642 U^ 0 V^ 5
    ∷ minus 27760 U^ 3 V^ 8
    ∷ []

abbrev pub minna : Page
minna = record {
  u = 15707963 from at 10 0;
  v = 15707963 from at 8 0;
  equations = shift (d_lat near 1252) (d_lon near 527) (d_h near 510);
  south = at 4 0;
  north = at 14 0;
  west = at 2 30;
  east = at 14 45;
}
