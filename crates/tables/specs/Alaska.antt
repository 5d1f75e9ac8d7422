-- Code 3, NAD 27 (Alaska): document 000, Table 20.31; the area is document 01's.
use Rattle.std.specs.Prelude.{List, [], ◌∷◌}
use Rattle.equation.specs.Equation.{Term, plus◌U^◌V^◌, minus◌U^◌V^◌}
use Rattle.tables.specs.Page.{Page, shift, ◌near◌, ◌from◌, at}

abbrev pub d_lat : List Term
d_lat =
    minus 208611 U^ 0 V^ 0
    ∷ plus 59833 U^ 1 V^ 0
    ∷ plus 23473 U^ 2 V^ 0
    ∷ plus 19561 U^ 4 V^ 0
    ∷ minus 18402 U^ 9 V^ 0
    ∷ plus 52967 U^ 0 V^ 1
    ∷ plus 23563 U^ 1 V^ 1
    ∷ minus 15184 U^ 3 V^ 1
    ∷ plus 28672 U^ 1 V^ 2
    ∷ minus 21241 U^ 2 V^ 2
    ∷ plus 27573 U^ 0 V^ 3
    ∷ plus 4891 U^ 0 V^ 4
    ∷ minus 18860 U^ 1 V^ 4
    ∷ minus 17032 U^ 0 V^ 5
    ∷ minus 5741 U^ 1 V^ 5
    ∷ minus 4292 U^ 2 V^ 5
    ∷ minus 1487 U^ 2 V^ 6
    ∷ plus 2097 U^ 0 V^ 7
    ∷ minus 188 U^ 3 V^ 7
    ∷ minus 384 U^ 0 V^ 8
    ∷ []

abbrev pub d_lon : List Term
d_lon =
    minus 819369 U^ 0 V^ 0
    ∷ minus 156665 U^ 1 V^ 0
    ∷ minus 310809 U^ 2 V^ 0
    ∷ plus 74679 U^ 4 V^ 0
    ∷ plus 73861 U^ 0 V^ 1
    ∷ minus 35323 U^ 1 V^ 1
    ∷ plus 43200 U^ 3 V^ 1
    ∷ plus 204229 U^ 6 V^ 1
    ∷ minus 100218 U^ 8 V^ 1
    ∷ minus 6926 U^ 0 V^ 2
    ∷ minus 68114 U^ 1 V^ 2
    ∷ plus 424388 U^ 2 V^ 2
    ∷ minus 148566 U^ 4 V^ 2
    ∷ minus 48255 U^ 5 V^ 2
    ∷ minus 32398 U^ 0 V^ 3
    ∷ plus 14065 U^ 1 V^ 3
    ∷ minus 30990 U^ 2 V^ 3
    ∷ minus 196501 U^ 2 V^ 4
    ∷ plus 11365 U^ 0 V^ 5
    ∷ plus 9847 U^ 1 V^ 6
    ∷ plus 49313 U^ 2 V^ 6
    ∷ minus 2809 U^ 2 V^ 8
    ∷ plus 54 U^ 5 V^ 9
    ∷ []

abbrev pub d_h : List Term
d_h =
    plus 8352 U^ 0 V^ 0
    ∷ minus 13742 U^ 1 V^ 0
    ∷ plus 5340 U^ 3 V^ 0
    ∷ minus 1560 U^ 8 V^ 0
    ∷ minus 8268 U^ 0 V^ 1
    ∷ plus 5087 U^ 3 V^ 1
    ∷ minus 1980 U^ 7 V^ 1
    ∷ plus 900 U^ 0 V^ 2
    ∷ plus 2960 U^ 1 V^ 2
    ∷ minus 2885 U^ 8 V^ 2
    ∷ minus 2016 U^ 0 V^ 3
    ∷ plus 1437 U^ 1 V^ 3
    ∷ minus 205 U^ 5 V^ 3
    ∷ minus 2461 U^ 3 V^ 4
    ∷ plus 951 U^ 0 V^ 5
    ∷ plus 94 U^ 1 V^ 8
    ∷ minus 11 U^ 1 V^ 9
    ∷ []

abbrev pub alaska : Page
alaska = record {
  u = 10471975 from at 62 0;
  v = 10471975 from at 208 0;
  equations = shift (d_lat near 538) (d_lon near 835) (d_h near 505);
  south = at 54 0;
  north = at 72 0;
  west = at 190 0;
  east = at 220 0;
}
