-- What it is for two rows of bytes to be the same, and for a feature to come back as it was given.
use Rattle.std.specs.Prelude.{◌≡◌, Bool, true, List, ℕ, ◌*◌, ◌≤◌, ◌<◌, length, take, get_or}
use Rattle.laws.specs.Blocks.{block}

-- An answer that is yes where something holds, and nowhere else.
abbrev pub Exactly : Bool → Type 0 → Type 0
Exactly b P = (b ≡ true → P) × (P → b ≡ true)

-- Two rows begin with so many bytes in common, and part there, or one of them ends.
pub record Common (a b : List ℕ) (n : ℕ) : Type 0 where
  pub in_first : n ≤ length a
  pub in_second : n ≤ length b
  pub agree : take n a ≡ take n b
  pub part : n < length a → n < length b → get_or a n 0 ≡ get_or b n 0 → ⊥

-- As many events were read back as were given, both rows hold so many records of 64 bytes, and each record that was read back is the
-- one that was given.
pub record AsGiven (events count : ℕ) (sent log : List ℕ) : Type 0 where
  pub as_many : count ≡ events
  pub given : 64 * events ≤ length sent
  pub heard : 64 * events ≤ length log
  pub each : (n : ℕ) → n < events → block 64 log n ≡ block 64 sent n
