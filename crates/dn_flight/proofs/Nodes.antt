-- What links change of nodes and of ends.
use Rattle.std.proofs.Common.{◌≡◌, ℕ, ◌==◌, ◌&&◌, cond, Bool, true, false, refl, ap}
use Rattle.dn_nodes.specs.declared.node.Node.{Node}
use Rattle.dn_flight.specs.Arena.{none, msg_of, member_number}
use Rattle.dn_flight.specs.Side.{key_of, before_of, after_of, with_before, with_after, first_end, last_end, with_first, with_last}
use Rattle.dn_flight.specs.Whole.{unlinked, unended, appended, end_moved}
use Rattle.dn_flight.specs.declared.heads.Ends.{Ends}
use Rattle.dn_flight.specs.declared.msg.Msg.{Msg}
use Rattle.dn_flight.specs.declared.side.Side.{Side}
use Rattle.dn_flight.specs.declared.side.Side.TheVariants.{To, From}

pub msg_unlinked : (s : Side) (b a p : ℕ) (n : Node) → msg_of (unlinked s b a p n) ≡ msg_of n
msg_unlinked s b a p n = by s (p == b) (p == a)
  where
    by : (s : Side) (t u : Bool) → msg_of (cond u (with_before s (cond t (with_after s n a) n) b) (cond t (with_after s n a) n)) ≡ msg_of n
    by To true true = refl
    by To true false = refl
    by To false true = refl
    by To false false = refl
    by From true true = refl
    by From true false = refl
    by From false true = refl
    by From false false = refl

pub key_unlinked : (s side : Side) (b a p : ℕ) (n : Node) → key_of side (unlinked s b a p n) ≡ key_of side n
key_unlinked s side b a p n = by s side (p == b) (p == a)
  where
    by : (s side : Side) (t u : Bool) → key_of side (cond u (with_before s (cond t (with_after s n a) n) b) (cond t (with_after s n a) n)) ≡ key_of side n
    by To To true true = refl
    by To To true false = refl
    by To To false true = refl
    by To To false false = refl
    by From To true true = refl
    by From To true false = refl
    by From To false true = refl
    by From To false false = refl
    by To From true true = refl
    by To From true false = refl
    by To From false true = refl
    by To From false false = refl
    by From From true true = refl
    by From From true false = refl
    by From From false true = refl
    by From From false false = refl

pub before_unlinked : (s : Side) (b a p : ℕ) (n : Node) → before_of s (unlinked s b a p n) ≡ cond (p == a) b (before_of s n)
before_unlinked s b a p n = by s (p == b) (p == a)
  where
    by : (s : Side) (t u : Bool) → before_of s (cond u (with_before s (cond t (with_after s n a) n) b) (cond t (with_after s n a) n)) ≡ cond u b (before_of s n)
    by To true true = refl
    by To true false = refl
    by To false true = refl
    by To false false = refl
    by From true true = refl
    by From true false = refl
    by From false true = refl
    by From false false = refl

pub after_unlinked : (s : Side) (b a p : ℕ) (n : Node) → after_of s (unlinked s b a p n) ≡ cond (p == b) a (after_of s n)
after_unlinked s b a p n = by s (p == b) (p == a)
  where
    by : (s : Side) (t u : Bool) → after_of s (cond u (with_before s (cond t (with_after s n a) n) b) (cond t (with_after s n a) n)) ≡ cond t a (after_of s n)
    by To true true = refl
    by To true false = refl
    by To false true = refl
    by To false false = refl
    by From true true = refl
    by From true false = refl
    by From false true = refl
    by From false false = refl

-- the links of the other side stay
abbrev pub other : Side → Side
other To = From
other From = To

pub before_other : (s : Side) (b a p : ℕ) (n : Node) → before_of (other s) (unlinked s b a p n) ≡ before_of (other s) n
before_other s b a p n = by s (p == b) (p == a)
  where
    by : (s : Side) (t u : Bool) → before_of (other s) (cond u (with_before s (cond t (with_after s n a) n) b) (cond t (with_after s n a) n)) ≡ before_of (other s) n
    by To true true = refl
    by To true false = refl
    by To false true = refl
    by To false false = refl
    by From true true = refl
    by From true false = refl
    by From false true = refl
    by From false false = refl

pub after_other : (s : Side) (b a p : ℕ) (n : Node) → after_of (other s) (unlinked s b a p n) ≡ after_of (other s) n
after_other s b a p n = by s (p == b) (p == a)
  where
    by : (s : Side) (t u : Bool) → after_of (other s) (cond u (with_before s (cond t (with_after s n a) n) b) (cond t (with_after s n a) n)) ≡ after_of (other s) n
    by To true true = refl
    by To true false = refl
    by To false true = refl
    by To false false = refl
    by From true true = refl
    by From true false = refl
    by From false true = refl
    by From false false = refl

pub first_unended : (s : Side) (b a k q : ℕ) (e : Ends) → first_end s (unended s b a k q e) ≡ cond ((b == none) && (q == k)) a (first_end s e)
first_unended s b a k q e = by s ((b == none) && (q == k)) ((a == none) && (q == k))
  where
    by : (s : Side) (t u : Bool) → first_end s (cond u (with_last s (cond t (with_first s e a) e) b) (cond t (with_first s e a) e)) ≡ cond t a (first_end s e)
    by To true true = refl
    by To true false = refl
    by To false true = refl
    by To false false = refl
    by From true true = refl
    by From true false = refl
    by From false true = refl
    by From false false = refl

pub last_unended : (s : Side) (b a k q : ℕ) (e : Ends) → last_end s (unended s b a k q e) ≡ cond ((a == none) && (q == k)) b (last_end s e)
last_unended s b a k q e = by s ((b == none) && (q == k)) ((a == none) && (q == k))
  where
    by : (s : Side) (t u : Bool) → last_end s (cond u (with_last s (cond t (with_first s e a) e) b) (cond t (with_first s e a) e)) ≡ cond u b (last_end s e)
    by To true true = refl
    by To true false = refl
    by To false true = refl
    by To false false = refl
    by From true true = refl
    by From true false = refl
    by From false true = refl
    by From false false = refl

pub first_other : (s : Side) (b a k q : ℕ) (e : Ends) → first_end (other s) (unended s b a k q e) ≡ first_end (other s) e
first_other s b a k q e = by s ((b == none) && (q == k)) ((a == none) && (q == k))
  where
    by : (s : Side) (t u : Bool) → first_end (other s) (cond u (with_last s (cond t (with_first s e a) e) b) (cond t (with_first s e a) e)) ≡ first_end (other s) e
    by To true true = refl
    by To true false = refl
    by To false true = refl
    by To false false = refl
    by From true true = refl
    by From true false = refl
    by From false true = refl
    by From false false = refl

pub last_other : (s : Side) (b a k q : ℕ) (e : Ends) → last_end (other s) (unended s b a k q e) ≡ last_end (other s) e
last_other s b a k q e = by s ((b == none) && (q == k)) ((a == none) && (q == k))
  where
    by : (s : Side) (t u : Bool) → last_end (other s) (cond u (with_last s (cond t (with_first s e a) e) b) (cond t (with_first s e a) e)) ≡ last_end (other s) e
    by To true true = refl
    by To true false = refl
    by To false true = refl
    by To false false = refl
    by From true true = refl
    by From true false = refl
    by From false true = refl
    by From false false = refl

pub msg_appended : (s : Side) (b place p : ℕ) (n : Node) → msg_of (appended s b place p n) ≡ msg_of n
msg_appended s b place p n = by s (p == b)
  where
    by : (s : Side) (t : Bool) → msg_of (cond t (with_after s n place) n) ≡ msg_of n
    by To true = refl
    by To false = refl
    by From true = refl
    by From false = refl

pub to_before_appended : (s : Side) (b place p : ℕ) (n : Node) → before_of To (appended s b place p n) ≡ before_of To n
to_before_appended s b place p n = by s (p == b)
  where
    by : (s : Side) (t : Bool) → before_of To (cond t (with_after s n place) n) ≡ before_of To n
    by To true = refl
    by To false = refl
    by From true = refl
    by From false = refl

pub from_before_appended : (s : Side) (b place p : ℕ) (n : Node) → before_of From (appended s b place p n) ≡ before_of From n
from_before_appended s b place p n = by s (p == b)
  where
    by : (s : Side) (t : Bool) → before_of From (cond t (with_after s n place) n) ≡ before_of From n
    by To true = refl
    by To false = refl
    by From true = refl
    by From false = refl

pub after_appended : (s : Side) (b place p : ℕ) (n : Node) → after_of s (appended s b place p n) ≡ cond (p == b) place (after_of s n)
after_appended s b place p n = by s (p == b)
  where
    by : (s : Side) (t : Bool) → after_of s (cond t (with_after s n place) n) ≡ cond t place (after_of s n)
    by To true = refl
    by To false = refl
    by From true = refl
    by From false = refl

pub after_appended_other : (s : Side) (b place p : ℕ) (n : Node) → after_of (other s) (appended s b place p n) ≡ after_of (other s) n
after_appended_other s b place p n = by s (p == b)
  where
    by : (s : Side) (t : Bool) → after_of (other s) (cond t (with_after s n place) n) ≡ after_of (other s) n
    by To true = refl
    by To false = refl
    by From true = refl
    by From false = refl

pub key_appended : (s side : Side) (b place p : ℕ) (n : Node) → key_of side (appended s b place p n) ≡ key_of side n
key_appended s To b place p n = ap (λ (m : Msg). member_number m.to) (msg_appended s b place p n)
key_appended s From b place p n = ap (λ (m : Msg). member_number m.from) (msg_appended s b place p n)

pub first_moved : (s : Side) (b k place q : ℕ) (e : Ends) → first_end s (end_moved s b k place q e) ≡ cond ((b == none) && (q == k)) place (first_end s e)
first_moved s b k place q e = by s (q == k) ((b == none) && (q == k))
  where
    by : (s : Side) (t u : Bool) → first_end s (cond t (with_last s (cond u (with_first s e place) e) place) (cond u (with_first s e place) e)) ≡ cond u place (first_end s e)
    by To true true = refl
    by To true false = refl
    by To false true = refl
    by To false false = refl
    by From true true = refl
    by From true false = refl
    by From false true = refl
    by From false false = refl

pub last_moved : (s : Side) (b k place q : ℕ) (e : Ends) → last_end s (end_moved s b k place q e) ≡ cond (q == k) place (last_end s e)
last_moved s b k place q e = by s (q == k) ((b == none) && (q == k))
  where
    by : (s : Side) (t u : Bool) → last_end s (cond t (with_last s (cond u (with_first s e place) e) place) (cond u (with_first s e place) e)) ≡ cond t place (last_end s e)
    by To true true = refl
    by To true false = refl
    by To false true = refl
    by To false false = refl
    by From true true = refl
    by From true false = refl
    by From false true = refl
    by From false false = refl

pub first_moved_other : (s : Side) (b k place q : ℕ) (e : Ends) → first_end (other s) (end_moved s b k place q e) ≡ first_end (other s) e
first_moved_other s b k place q e = by s (q == k) ((b == none) && (q == k))
  where
    by : (s : Side) (t u : Bool) → first_end (other s) (cond t (with_last s (cond u (with_first s e place) e) place) (cond u (with_first s e place) e)) ≡ first_end (other s) e
    by To true true = refl
    by To true false = refl
    by To false true = refl
    by To false false = refl
    by From true true = refl
    by From true false = refl
    by From false true = refl
    by From false false = refl

pub last_moved_other : (s : Side) (b k place q : ℕ) (e : Ends) → last_end (other s) (end_moved s b k place q e) ≡ last_end (other s) e
last_moved_other s b k place q e = by s (q == k) ((b == none) && (q == k))
  where
    by : (s : Side) (t u : Bool) → last_end (other s) (cond t (with_last s (cond u (with_first s e place) e) place) (cond u (with_first s e place) e)) ≡ last_end (other s) e
    by To true true = refl
    by To true false = refl
    by To false true = refl
    by To false false = refl
    by From true true = refl
    by From true false = refl
    by From false true = refl
    by From false false = refl
