-- The words of records, one record after another: the root's first, where a finished feature waits, then the parts'.
use Rattle.std.specs.Prelude.{◌≡◌, List, [], ◌∷◌, ◌++◌, ℕ}
use Rattle.std.proofs.Common.{append-nil, append_assoc}
use Rattle.std.proofs.Math.Option.{Option, none, some, get_or}
use Rattle.kinds.specs.Lanes.{Lane, xyL, endsL, zL, mL, tL, tmL}
use Rattle.store.specs.Lists.{Rec}
use Rattle.writer_model.specs.Writer.{Writer}

abbrev pub list_in : Rec → Lane → Option (List ℕ)
list_in r xyL = r.xy
list_in r endsL = r.ends
list_in r zL = r.z
list_in r mL = r.m
list_in r tL = r.t
list_in r tmL = r.tm

abbrev pub words_of : Rec → Lane → List ℕ
words_of r n = get_or (list_in r n) []

abbrev pub joined : List Rec → Lane → List ℕ
joined [] n = []
joined (r ∷ rs) n = words_of r n ++ joined rs n

abbrev pub rooted : Option Rec → List Rec → List Rec
rooted none parts = parts
rooted (some r) parts = r ∷ parts

abbrev pub laid : Writer → Lane → List ℕ
laid w n = joined (rooted w.root w.parts) n

joined_snoc : (rs : List Rec) (r : Rec) (n : Lane) → joined (rs ++ (r ∷ [])) n ≡ joined rs n ++ words_of r n
joined_snoc [] r n = append-nil (words_of r n)
joined_snoc (q ∷ rs) r n = rw (joined_snoc rs r n, append_assoc)

pub laid_snoc : (o : Option Rec) (rs : List Rec) (r : Rec) (n : Lane) → joined (rooted o (rs ++ (r ∷ []))) n ≡ joined (rooted o rs) n ++ words_of r n
laid_snoc none rs r n = joined_snoc rs r n
laid_snoc (some q) rs r n = joined_snoc (q ∷ rs) r n
