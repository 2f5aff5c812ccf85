-- What is made lane by lane, seen by lane.
use Rattle.std.specs.Prelude.{◌≡◌, refl, List, [], ℕ, length}
use Rattle.kinds.specs.LaneLaws.{by_lane}
use Rattle.kinds.specs.Lanes.{Lane, lent_in}
use Rattle.store.specs.Lists.{Pools, lent_of}
use Rattle.pending.specs.declared.words.Words.{Words}
use Rattle.pending.specs.Words.{words_in, pending_of}
use Rattle.writing.specs.State.{pool_in, pools_by}
use Rattle.writer_model.specs.Writer.{no_lists}

pub words-by : (f : Lane → Words) (n : Lane) → words_in (pending_of f) n ≡ f n
words-by f = by_lane _ refl refl refl refl refl refl

pub pool_by : (f : Lane → List ℕ) (n : Lane) → pool_in (pools_by f) n ≡ f n
pool_by f = by_lane _ refl refl refl refl refl refl

pub lent_by : (P : Pools) (n : Lane) → lent_in (lent_of P) n ≡ length (pool_in P n)
lent_by P = by_lane _ refl refl refl refl refl refl

pub none_by : (n : Lane) → pool_in no_lists n ≡ []
none_by = by_lane _ refl refl refl refl refl refl
