-- An accepted event does to the lists what it asks for: words pushed, perhaps a part finished, a typing.
use Rattle.std.specs.Prelude.{None, Some, ◌≡◌, Bool, cond, ◌||◌, ℕ, length, leb, ltb, eqb}
use Rattle.std.proofs.Math.Path.{refl, ap}
use Rattle.std.proofs.Common.{sym, ◌∙◌}
use Rattle.std.proofs.Math.Bool.{true, false}
use mathlib.Core.List.{List, [], ◌∷◌, ◌++◌, append-nil}
use Rattle.laws.specs.Every.{never}
use Rattle.kinds.specs.declared.event.Event.{Event}
use Rattle.asking.specs.declared.typing.Typing.{Typing}
use Rattle.writing.specs.declared.state.State.{State}
use Rattle.asking.specs.SetType.{Typed, with_mode}
use Rattle.asking.specs.Ask.{Added, no_words, pair_with, ask, ask_of, begun, calmed, pushes_end, collects, end_if as added_end}
use Rattle.asking.specs.declared.ask.Ask.{Ask}
use Rattle.pending.specs.Words.{words, pending_of}
use Rattle.writing.specs.State.{fresh, with_typing, with_pending, pool_in, pools_by}
use Rattle.writing.specs.Calls.{gives}
use Rattle.writer_model.specs.Writer.{Writer, retyped, holding, finish_part, part_if, typed_to, pushed, coordinate, end_pushed, end_if, calm, line_end, polygon_end, after}

-- what an event asks for, by the tests of its kind: begin, pair, and the ends of Point, LineString, Polygon and GeometryCollection
abbrev pub ask_by : Typing → Event → Bool → Bool → Bool → Bool → Bool → Bool → Ask
ask_by h e b x i j k l =
    cond b (ask (begun h e) no_words false)
    (cond x (ask (Some h) (pair_with e.present) false)
    (cond i (ask (Some h) no_words (collects h))
    (cond j (ask (Some (calmed h e.tagged)) (added_end (pushes_end h e.tagged)) (collects h))
    (cond k (ask (Some (calmed h e.tagged)) no_words (pushes_end h e.tagged || collects h))
    (cond l (ask (Some (with_mode h 0)) no_words false)
    (ask (Some h) no_words false))))))

-- a state that counts the writer's pending words: an end counts its pairs
abbrev pub counted : Writer → State
counted w = with_pending (with_typing fresh w.typing) (pending_of (λ n. words 0 (length (pool_in w.pending n))))

abbrev pub extended : Writer → Added → Event → Writer
extended w a e = holding w (pools_by (λ n. pool_in w.pending n ++ gives (counted w) a e n))

unfoldable pub acted : Writer → Ask → Event → Typing → Writer
acted w a e h = retyped (part_if a.part (extended w a.added e)) h

module _ (w : Writer) (e : Event) where
  none_added : extended w no_words e ≡ w
  none_added = simp append-nil

  pushed-is : (on : Bool) (l : List ℕ) (v : ℕ) → l ++ cond on (v ∷ []) [] ≡ pushed on l v
  pushed-is true l v = refl
  pushed-is false l v = append-nil l

  pair_added : extended w (pair_with e.present) e ≡ coordinate w e
  unfolding coordinate
  pair_added = simp (append-nil, pushed-is)

  end_added : (on : Bool) → extended w (added_end on) e ≡ end_if on w
  unfolding end_pushed
  end_added true = simp append-nil
  end_added false = simp append-nil

  acts : (typed : Typed) (a : Added) (part : Bool) (h : Typing) (v : Writer) → extended w a e ≡ v → retyped (part_if part v) h ≡ acted w (ask typed a part) e h
  unfolding acted
  acts typed a part h v q = ap (λ (u : Writer). retyped (part_if part u) h) (sym q)

  typed-is : (o : Typed) (h : Typing) → o ≡ Some h → typed_to w o ≡ retyped w h
  typed-is None h q = absurd (never (cc))
  typed-is (Some g) h q = let z : g ≡ h = cc in rw z

  -- an end is followed by calm, whatever it did
  ended : (on part : Bool) (tagged : Bool) → calm (part_if part (end_if on w)) tagged ≡ retyped (part_if part (end_if on w)) (calmed w.typing tagged)
  unfolding finish_part end_pushed
  ended true true tagged = refl
  ended true false tagged = refl
  ended false true tagged = refl
  ended false false tagged = refl

  parted : (part : Bool) → part_if part w ≡ retyped (part_if part w) w.typing
  unfolding finish_part
  parted true = refl
  parted false = refl

  paired : coordinate w e ≡ retyped (coordinate w e) w.typing
  unfolding coordinate
  paired = refl

  pub after_is : (h : Typing) → (ask_of w.typing e).typed ≡ Some h → after w e ≡ acted w (ask_of w.typing e) e h
  unfolding after ask_of line_end polygon_end
  after_is h q = go (ltb e.kind 32) (leb 64 e.kind) (eqb e.kind 33) (eqb e.kind 34) (eqb e.kind 35) (eqb e.kind 39) q
    where
      c : Typing
      c = calmed w.typing e.tagged

      m : Bool
      m = collects w.typing

      p : Bool
      p = pushes_end w.typing e.tagged

      after_by : Bool → Bool → Bool → Bool → Bool → Bool → Writer
      after_by b x i j k l =
          cond b (typed_to w (begun w.typing e))
          (cond x (coordinate w e)
          (cond i (part_if m w)
          (cond j (calm (part_if m (end_if p w)) e.tagged)
          (cond k (calm (part_if (p || m) w) e.tagged)
          (cond l (retyped w (with_mode w.typing 0)) w)))))

      go : (b x i j k l : Bool) → (ask_by w.typing e b x i j k l).typed ≡ Some h → after_by b x i j k l ≡ acted w (ask_by w.typing e b x i j k l) e h
      go true x i j k l q = typed-is (begun w.typing e) h q ∙ acts (begun w.typing e) no_words false h w none_added
      go false true i j k l q = let z : w.typing ≡ h = cc in paired ∙ ap (retyped (coordinate w e)) z ∙ acts _ (pair_with e.present) false h _ pair_added
      go false false true j k l q = let z : w.typing ≡ h = cc in parted m ∙ ap (retyped (part_if m w)) z ∙ acts _ no_words m h w none_added
      go false false false true k l q = let z : c ≡ h = cc in ended p m e.tagged ∙ ap (retyped (part_if m (end_if p w))) z ∙ acts _ (added_end p) m h _ (end_added p)
      go false false false false true l q = let z : c ≡ h = cc in ended false (p || m) e.tagged ∙ ap (retyped (part_if (p || m) w)) z ∙ acts _ no_words (p || m) h w none_added
      go false false false false false true q = let z : with_mode w.typing 0 ≡ h = cc in ap (retyped w) z ∙ acts _ no_words false h w none_added
      go false false false false false false q = let z : w.typing ≡ h = cc in ap (retyped w) z ∙ acts _ no_words false h w none_added
