-- SPEC 3.2, 3.3: an event record. Kind, tagged, present bits and a spare byte; size, idx and the number of the feature, four bytes each; x, y, z, m, t, tm, eight bytes each.
use Rattle.std.specs.Prelude.{Bool, cond, ◌&&◌, List, ◌++◌, ℕ, length, get_or, leb, eqb}
use Rattle.laws.specs.Bytes.{le, word_at}
use Rattle.kinds.specs.declared.event.Event.{Event}
use Rattle.kinds.specs.Event.{Parsed, WellFormed, Malformed, well_formed}
use Rattle.event_layout.specs.Head.{head_bytes}

abbrev pub bit : Bool → ℕ
bit on = cond on 1 0

abbrev pub double_bytes : Event → List ℕ
double_bytes e = le 8 e.x ++ le 8 e.y ++ le 8 e.z ++ le 8 e.m ++ le 8 e.t ++ le 8 e.tm

-- an event of a feature laid down
unfoldable pub event_bytes : ℕ → Event → List ℕ
event_bytes feature e = head_bytes e.kind (bit e.tagged) e.present ++ le 4 e.size ++ le 4 e.idx ++ le 4 feature ++ double_bytes e

-- the fields of 64 bytes, and the number of the feature, which stands beside them
unfoldable pub event_of : List ℕ → Event
event_of l =
    record {
      kind = get_or l 0 0;
      tagged = eqb (get_or l 1 0) 1;
      present = get_or l 2 0;
      size = word_at 4 l 4;
      idx = word_at 4 l 8;
      x = word_at 8 l 16;
      y = word_at 8 l 24;
      z = word_at 8 l 32;
      m = word_at 8 l 40;
      t = word_at 8 l 48;
      tm = word_at 8 l 56;
    }

unfoldable pub feature_of : List ℕ → ℕ
feature_of l = word_at 4 l 12

-- tagged is 0 or 1, and the spare byte is zero
unfoldable pub spare_zero : List ℕ → Bool
spare_zero l = leb (get_or l 1 0) 1 && eqb (get_or l 3 0) 0

-- any bytes are an event or malformed, whatever the feature's number
unfoldable pub read_event : List ℕ → Parsed
read_event l = cond (eqb (length l) 64 && (spare_zero l && well_formed (event_of l))) (WellFormed (event_of l)) Malformed
