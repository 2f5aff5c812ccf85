-- A number in so many bytes, there and back, and what a field reads of bytes.
use Rattle.std.specs.Prelude.{◌≡◌, true, ◌&&◌, ℕ, zero, suc, ◌^◌, ◌<◌, leb, length}
use Rattle.std.proofs.Common.{sym, ap, ◌∙◌, arith, lit<, length-append, take_at, drop_at, le-leb}
use mathlib.Core.List.{List, [], ◌∷◌, ◌++◌, reverse, reverse_aux, reverse-reverse}
use Rattle.std.proofs.lemmas.List.{length-reverse}
use Rattle.laws.specs.Bytes.{le, unle, Bytes, length-le, unle-le, le-unle, unle_lt}
use Rattle.wkb.specs.Order.{number_bytes, value_of}
use Rattle.wkb.specs.Wkb.{uint32, head}
use Rattle.wkb.specs.declared.order.Order.{Order}
use Rattle.wkb.specs.declared.order.Order.TheVariants.{Big, Little}
use Rattle.wkb_reader.specs.Reading.{Next, Reads, field, type_r, head_r}

-- ---- a number's bytes are its own
length-number : (o : Order) (wide v : ℕ) → length (number_bytes o wide v) ≡ wide
length-number Big wide v = length-reverse (le wide v) ∙ length-le wide v
length-number Little wide v = length-le wide v

value_number : (o : Order) (wide v : ℕ) → v < 256 ^ wide → value_of o (number_bytes o wide v) ≡ v
value_number Big wide v h = ap unle (reverse-reverse (le wide v)) ∙ unle-le wide v h
value_number Little wide v h = unle-le wide v h

field_reads : (o : Order) (wide : ℕ) (f : ℕ → Reads) (front l : List ℕ) (next : Next) → length front ≡ wide → field o wide f (front ++ l) next ≡ f (value_of o front) l next
unfolding field
field_reads o wide f front l next n =
    rw (le-leb wide (length (front ++ l)) (omega (arith, length-append front l)), take_at front l wide n, drop_at front l wide n)

pub field_at : (o : Order) (wide v : ℕ) (f : ℕ → Reads) (l : List ℕ) (next : Next) → v < 256 ^ wide → field o wide f (number_bytes o wide v ++ l) next ≡ f v l next
field_at o wide v f l next h =
    field_reads o wide f (number_bytes o wide v) l next (length-number o wide v) ∙ ap (λ (n : ℕ). f n l next) (value_number o wide v h)

-- ---- an order mark and a type that may stand there
type_at : (o : Order) (least most type : ℕ) (f : Order → ℕ → Reads) (l : List ℕ) (next : Next) → type < 4294967296 → (leb least type && leb type most) ≡ true → type_r least most f o (uint32 o type l) next ≡ f o type l next
unfolding type_r
type_at o least most type f l next small there = field_at o 4 type _ l next small ∙ rw there

pub head_at : (o : Order) (least most type : ℕ) (f : Order → ℕ → Reads) (l : List ℕ) (next : Next) → type < 4294967296 → (leb least type && leb type most) ≡ true → head_r least most f (head o type l) next ≡ f o type l next
unfolding head_r
head_at Big least most type f l next small there = field_at Little 1 0 _ (uint32 Big type l) next (lit< tt) ∙ type_at Big least most type f l next small there
head_at Little least most type f l next small there = field_at Little 1 1 _ (uint32 Little type l) next (lit< tt) ∙ type_at Little least most type f l next small there

-- ---- and bytes are those of their number, as long as they are bytes
turned_bytes : (l r : List ℕ) → Bytes l → Bytes r → Bytes (reverse_aux l r)
turned_bytes [] r p q = q
turned_bytes (b ∷ l) r p q = turned_bytes l (b ∷ r) (λ i. p (suc i)) (put (p 0) q)
  where
    put : b < 256 → Bytes r → Bytes (b ∷ r)
    put p q zero = p
    put p q (suc i) = q i

reverse_bytes : (l : List ℕ) → Bytes l → Bytes (reverse l)
reverse_bytes l p = turned_bytes l [] p (λ i. omega arith)

pub number_value : (o : Order) (l : List ℕ) → Bytes l → number_bytes o (length l) (value_of o l) ≡ l
number_value Big l p =
    ap (λ (n : ℕ). reverse (le n (unle (reverse l)))) (sym (length-reverse l)) ∙ ap reverse (le-unle (reverse l) (reverse_bytes l p)) ∙ reverse-reverse l
number_value Little l p = le-unle l p

pub value_lt : (o : Order) (l : List ℕ) → Bytes l → value_of o l < 256 ^ length l
value_lt Big l p = rw (length-reverse l) at (unle_lt (reverse l) (reverse_bytes l p))
value_lt Little l p = unle_lt l p
