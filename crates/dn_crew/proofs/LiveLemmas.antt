-- What a core makes of payloads, and letters on a board.
use Rattle.std.proofs.Common.{◌≡◌, ℕ, zero, suc, ◌+◌, ◌-◌, ◌<◌, ◌≤◌, ◌≢◌, ◌==◌, List, [], ◌∷◌, ◌++◌, length, map, take, drop, get_or, Bool, true, false, cond, refl, sym, ap, subst, ◌∙◌, arith, Option, ◌⊎◌, inl, inr, append_assoc, append-nil, length-append, length-drop, Some, None, IfSome, slice_get}
use Rattle.std.specs.List.{filter, filter_map, flat_map}
use Rattle.std.proofs.lemmas.List.Elements.{filter-append, filter_map-append}
use Rattle.std.proofs.lemmas.Bool.{cases_lt}
use lib.ListN.{get_elem?}
use Rattle.std.proofs.lemmas.Grind.{flat_map-append}
use Rattle.std.proofs.lemmas.List.{take_more, map-append, take-append-le, drop-append-le}
use Rattle.dn_wire.specs.declared.ids.Member.{Member}
use Rattle.dn_wire.specs.declared.ids.ServerId.{ServerId}
use Rattle.dn_roster.specs.Roster.{RosterView}
use Rattle.dn_server.specs.declared.act.Act.{Act}
use Rattle.dn_server.specs.Server.{ServerView}
use Rattle.dn_board.specs.declared.letters.Letter.{Letter}
use Rattle.dn_board.specs.declared.post.Post.{Post}
use Rattle.dn_counts.proofs.Sums.{snoc_at}
use Rattle.dn_turns.specs.Logs.{under, Follows, GrowsBelow}
use Rattle.dn_turns.specs.Turns.{LockId}
use Rattle.dn_board.specs.Reads.{last_place}
use Rattle.dn_board.proofs.Places.{last_low, stays_with}
use Rattle.dn_board.proofs.Places as places
use Rattle.dn_crew.specs.Live.{IsHanded, letters_of, server_of, Makes, entries, itself, letters_between, payloads_of, posts_under, GivesFrom}
use Rattle.dn_crew.specs.Workers.{AllBy, AllLow, post_of, HasTurned}
use Rattle.dn_crew.proofs.Totals.{length-mapped}

module _ (roster : RosterView) (servers : List ServerId) where
  -- one payload more
  pub makes_more : (v w u : ServerView) (payloads : List (List ℕ)) (bytes : List ℕ) (made more : List Letter) (did : List Act)
      → Makes roster servers v payloads made w → IsHanded roster w bytes did u → more ≡ made ++ letters_of servers (server_of w) did
      → Makes roster servers v (payloads ++ bytes ∷ []) more u
  makes_more v w u [] bytes made more did m h e =
      let handed = subst (λ x. IsHanded roster x bytes did u) m.1 h in
      let same = e ∙ ap (λ l. l ++ letters_of servers (server_of w) did) m.0 ∙ ap (λ x. letters_of servers (server_of x) did) m.1 ∙ sym (append-nil _) in
      (u, did, [], handed, same, (refl, refl))
  makes_more v w u (b ∷ payloads) bytes made more did m h e =
      (m.0, m.1, m.2 ++ letters_of servers (server_of w) did, m.3, e ∙ ap (λ l. l ++ letters_of servers (server_of w) did) m.4 ∙ append_assoc (letters_of servers (server_of v) m.1) m.2 (letters_of servers (server_of w) did), makes_more m.0 w u payloads bytes m.2 (m.2 ++ letters_of servers (server_of w) did) did m.5 h refl)

-- ---- entries

-- the letters of the post at a place
pub entry_at : (first : List Letter) (posts : List (ℕ × Post)) (place : ℕ) (p : Post) → 0 < place → place ≤ length posts → IfSome (slice_get posts (place - 1)) (λ q. q.1 ≡ p)
    → slice_get (entries first posts) place ≡ Some p.letters
entry_at first posts zero p low le h = absurd (omega arith)
entry_at first posts (suc k) p low le h = post_at posts k p le (subst (λ n. IfSome (slice_get posts n) (λ q. q.1 ≡ p)) less h) where
  less : suc k - 1 ≡ k
  less = omega arith

  post_at : (posts : List (ℕ × Post)) (k : ℕ) (p : Post) → suc k ≤ length posts → IfSome (slice_get posts k) (λ q. q.1 ≡ p) → slice_get (map (λ q. q.1.letters) posts) k ≡ Some p.letters
  post_at [] k p le h = absurd (omega arith)
  post_at (q ∷ posts) zero p le h = ap (λ x. Some x.letters) h
  post_at (q ∷ posts) (suc k) p le h = post_at posts k p (omega arith) h

get_drop : {A : Type 0} (xs : List A) (from k : ℕ) (e d : A) → slice_get xs (from + k) ≡ Some e → (k < length (drop from xs)) × (get_or (drop from xs) k d ≡ e)
get_drop xs zero k e d h = there xs k e d (ap (slice_get xs) (sym (Rattle.std.proofs.Common.zero-add k)) ∙ h) where
  there : {A : Type 0} (xs : List A) (k : ℕ) (e d : A) → slice_get xs k ≡ Some e → (k < length xs) × (get_or xs k d ≡ e)
  there [] k e d h = absurd (none_is h) where
    none_is : {A : Type 0} {e : A} → None ≡ Some e → ⊥
    none_is h = cc
  there (x ∷ xs) zero e d h = (omega arith, same h) where
    same : Some x ≡ Some e → x ≡ e
    same h = cc
  there (x ∷ xs) (suc k) e d h = let t = there xs k e d h in (omega (arith, t.0), t.1)
get_drop [] (suc from) k e d h = absurd (none_is h) where
  none_is : {A : Type 0} {e : A} → None ≡ Some e → ⊥
  none_is h = cc
get_drop (x ∷ xs) (suc from) k e d h =
    let n : suc from + k ≡ suc (from + k) = omega arith in
    get_drop xs from k e d (ap (slice_get (x ∷ xs)) (sym n) ∙ h)

abbrev to_server : ℕ → Letter → Bool
to_server j l = l.to.0 == j

-- one entry more
pub between_more : (first : List Letter) (posts : List (ℕ × Post)) (j from place : ℕ) (e : List Letter) → from ≤ place → slice_get (entries first posts) place ≡ Some e
    → payloads_of (letters_between first posts j from (place + 1)) ≡ payloads_of (letters_between first posts j from place) ++ payloads_of (filter (λ l. l.to.0 == j) e)
between_more first posts j from place e le at =
    let E = entries first posts in
    let k = place - from in
    let more : place + 1 - from ≡ k + 1 = omega arith in
    let here : from + k ≡ place = omega arith in
    let g = get_drop E from k e e (ap (slice_get E) here ∙ at) in
    let taken : take (place + 1 - from) (drop from E) ≡ take k (drop from E) ++ e ∷ [] = ap (λ n. take n (drop from E)) more ∙ take_more (drop from E) k e g.0 ∙ ap (λ x. take k (drop from E) ++ x ∷ []) g.1 in
    let flat : flat_map itself (take (place + 1 - from) (drop from E)) ≡ flat_map itself (take k (drop from E)) ++ e =
    ap (flat_map itself) taken ∙ flat_map-append itself (take k (drop from E)) (e ∷ []) ∙ ap (λ l. flat_map itself (take k (drop from E)) ++ l) (append-nil e) in
    ap payloads_of (ap (filter (to_server j)) flat ∙ filter-append (to_server j) (flat_map itself (take k (drop from E))) e) ∙ map-append (λ l. l.payload) (filter (to_server j) (flat_map itself (take k (drop from E)))) (filter (to_server j) e)

-- the letter to one member more
pub put_more : (h : Member → Option Letter) (to : List Member) (i : ℕ) (d : Member) (had made new : List Letter) → i < length to → made ≡ had ++ filter_map h (take i to)
    → new ≡ made ++ filter_map h (get_or to i d ∷ []) → new ≡ had ++ filter_map h (take (i + 1) to)
put_more h to i d had made new lt e f =
    f ∙ ap (λ l. l ++ filter_map h (get_or to i d ∷ [])) e ∙ append_assoc had (filter_map h (take i to)) (filter_map h (get_or to i d ∷ []))
    ∙ ap (λ l. had ++ l) (sym (filter_map-append h (take i to) (get_or to i d ∷ []))) ∙ ap (λ l. had ++ filter_map h l) (sym (take_more to i d lt))

-- the entries of a log are under numbers below n
below_push : (n : ℕ) (seen log grown : List (ℕ × Post)) (w : ℕ) (p : Post) → GrowsBelow n [] seen → GrowsBelow n seen log → w < n → grown ≡ log ++ (w, p) ∷ [] → Follows (w ∷ []) seen log → GrowsBelow n [] grown
below_push n seen log grown w p old new inside e f = λ j q le at.
    elim (snoc_at log (w, p) q j (ap (λ l. get_elem? l j) (sym e) ∙ at)) [
      | inl there ↦ elim (cases_lt j (length seen)) [
        | inl lt ↦ old j q (omega arith) (in_front seen f.0 j lt ∙ ap (λ l. get_elem? l j) (sym f.1) ∙ there)
        | inr ge ↦ new j q ge there
      ]
      | inr here ↦ subst (λ x. x.0 < n) here.1 inside
    ] where
      in_front : {A : Type 0} (xs ys : List A) (j : ℕ) → j < length xs → get_elem? xs j ≡ get_elem? (xs ++ ys) j
      in_front [] ys j lt = absurd (omega arith)
      in_front (x ∷ xs) ys zero lt = refl
      in_front (x ∷ xs) ys (suc j) lt = in_front xs ys j (omega arith)

-- ---- a log that grows

take_within : {A : Type 0} (xs ys : List A) (from to : ℕ) → to ≤ length xs → take (to - from) (drop from (xs ++ ys)) ≡ take (to - from) (drop from xs)
take_within xs ys from to le = elim (cases_lt from to) [
  | inl lt ↦ (
      let d = drop-append-le from xs ys (omega arith) in
      let n : to - from ≤ length (drop from xs) = omega (arith, length-drop from xs) in
      ap (take (to - from)) d ∙ take-append-le (to - from) (drop from xs) ys n)
  | inr ge ↦ (
      let z : to - from ≡ 0 = omega arith in
      ap (λ n. take n (drop from (xs ++ ys))) z ∙ take_none (drop from (xs ++ ys)) ∙ sym (take_none (drop from xs)) ∙ ap (λ n. take n (drop from xs)) (sym z))
] where
  take_none : {A : Type 0} (xs : List A) → take 0 xs ≡ []
  take_none [] = refl
  take_none (x ∷ xs) = refl

pub between_grows : (first : List Letter) (posts more : List (ℕ × Post)) (j from to : ℕ) → to ≤ length posts + 1 → letters_between first (posts ++ more) j from to ≡ letters_between first posts j from to
between_grows first posts more j from to le =
    let E = entries first posts in
    let long : length E ≡ suc (length posts) = ap suc (length-mapped (λ (p : ℕ × Post). p.1.letters) posts) in
    let grown : entries first (posts ++ more) ≡ E ++ map (λ p. p.1.letters) more = ap (λ l. first ∷ l) (map-append (λ p. p.1.letters) posts more) in
    ap (λ x. filter (to_server j) (flat_map itself (take (to - from) (drop from x)))) grown
    ∙ ap (λ x. filter (to_server j) (flat_map itself x)) (take_within E (map (λ p. p.1.letters) more) from to (omega arith))

module _ (roster : RosterView) (servers : List ServerId) (first : List Letter) where
  pub gives_grow : (posts more : List (ℕ × Post)) (v : ServerView) (from : ℕ) (own : List Post) (w : ServerView) (to : ℕ) → AllLow (length posts) own
      → GivesFrom roster servers first posts v from own w to → GivesFrom roster servers first (posts ++ more) v from own w to
  gives_grow posts more v from [] w to low g = g
  gives_grow posts more v from (p ∷ own) w to low g =
      let same = sym (between_grows first posts more v.seat.number from p.read (omega (arith, low.0))) in
      (g.0, subst (λ l. Makes roster servers v (payloads_of l) p.letters g.0) same g.1, gives_grow posts more g.0 p.read own w to low.1 g.2)

  pub gives_more : (posts : List (ℕ × Post)) (v : ServerView) (from : ℕ) (own : List Post) (w u : ServerView) (to : ℕ) (p : Post) → GivesFrom roster servers first posts v from own w to
      → Makes roster servers w (payloads_of (letters_between first posts w.seat.number to p.read)) p.letters u
      → GivesFrom roster servers first posts v from (own ++ p ∷ []) u p.read
  gives_more posts v from [] w u to p g m =
      let a = subst (λ x. Makes roster servers x (payloads_of (letters_between first posts x.seat.number to p.read)) p.letters u) g.0 m in
      let b = subst (λ n. Makes roster servers v (payloads_of (letters_between first posts v.seat.number n p.read)) p.letters u) g.1 a in
      (u, b, (refl, refl))
  gives_more posts v from (q ∷ own) w u to p g m = (g.0, g.1, gives_more posts g.0 q.read own w u to p g.2 m)

pub low_more : (m n : ℕ) (own : List Post) → m ≤ n → AllLow m own → AllLow n own
low_more m n [] le h = tt
low_more m n (p ∷ own) le h = (omega (arith, h.0), low_more m n own le h.1)

low_push : (n : ℕ) (own : List Post) (p : Post) → AllLow n own → p.read ≤ n → AllLow n (own ++ p ∷ [])
low_push n [] p h le = (le, tt)
low_push n (q ∷ own) p h le = (h.0, low_push n own p h.1 le)

by_push : (author : ServerId) (own : List Post) (p : Post) → AllBy author own → p.author ≡ author → AllBy author (own ++ p ∷ [])
by_push author [] p h e = (e, tt)
by_push author (q ∷ own) p h e = (h.0, by_push author own p h.1 e)

module _ (lock : LockId) (roster : RosterView) (servers : List ServerId) (first : List Letter) (w : ℕ) (v : ServerView) where
  -- one turn more: the log had gone on, and the worker gave its post
  pub turned_more : (turns : ℕ) (seen log grown : List (ℕ × Post)) (core after : ServerView) (inbox more : List (List ℕ)) (made : List Letter)
      → HasTurned lock roster servers first w v turns seen core inbox → core.seat ≡ v.seat → Makes roster servers core inbox made after
      → Follows (w ∷ []) seen log → GrowsBelow lock.passes seen log → w < lock.passes → grown ≡ log ++ (w, post_of after w log made) ∷ [] → after.seat ≡ core.seat
      → under (w ∷ []) log ≡ under (w ∷ []) seen → under (w ∷ []) grown ≡ under (w ∷ []) log ++ (w, post_of after w log made) ∷ []
      → more ≡ payloads_of (letters_between first log after.seat.number (last_place w log) (length log + 1))
      → HasTurned lock roster servers first w v (turns + 1) grown after more
  turned_more turns seen log grown core after inbox more made h seat makes follows grows inside eg seats same_own own em =
      let p = post_of after w log made in
      let rest = follows.0 in
      let own_is : posts_under w grown ≡ posts_under w seen ++ p ∷ [] = ap (map (λ q. q.1)) own ∙ map-append (λ q. q.1) (under (w ∷ []) log) ((w, p) ∷ []) ∙ ap (λ l. map (λ q. q.1) l ++ p ∷ []) same_own in
      let read : last_place w log ≡ last_place w seen = stays_with w seen log follows in
      let low_seen : last_place w seen ≤ length seen = last_low w seen in
      let long : length grown ≡ length log + 1 = ap length eg ∙ length-append log ((w, p) ∷ []) in
      let longer : length seen ≤ length log = omega (arith, ap length follows.1, length-append seen rest) in
      let all : grown ≡ seen ++ (rest ++ (w, p) ∷ []) = eg ∙ ap (λ l. l ++ (w, p) ∷ []) follows.1 ∙ append_assoc seen rest ((w, p) ∷ []) in
      let earlier = subst (λ l. GivesFrom roster servers first l v 0 (posts_under w seen) core h.from) (sym all) (gives_grow roster servers first seen (rest ++ (w, p) ∷ []) v 0 (posts_under w seen) core h.from h.low h.given) in
      let between : letters_between first grown core.seat.number h.from p.read ≡ letters_between first seen v.seat.number h.from (last_place w seen) =
      ap (λ l. letters_between first l core.seat.number h.from p.read) all ∙ between_grows first seen (rest ++ (w, p) ∷ []) core.seat.number h.from p.read (omega arith)
      ∙ ap (λ n. letters_between first seen core.seat.number h.from n) read ∙ ap (λ s. letters_between first seen s.number h.from (last_place w seen)) seat in
      let made_here = subst (λ l. Makes roster servers core l made after) (h.inbox_is ∙ ap payloads_of (sym between)) makes in
      let given = gives_more roster servers first grown v 0 (posts_under w seen) core after h.from p earlier made_here in
      let last : last_place w grown ≡ length log + 1 = ap (last_place w) eg ∙ places.given log (w, p) in
      record {
        turns_are = ap length own_is ∙ length-append (posts_under w seen) (p ∷ []) ∙ ap (λ n. n + 1) h.turns_are;
        author = subst (AllBy (server_of v)) (sym own_is) (by_push (server_of v) (posts_under w seen) p h.author (ap (λ s. let x : ServerId = record { 0 = s.number } in x) (seats ∙ seat)));
        low = subst (AllLow (length grown)) (sym own_is) (low_push (length grown) (posts_under w seen) p (low_more (length seen) (length grown) (posts_under w seen) (omega arith) h.low) (omega arith));
        below = below_push lock.passes seen log grown w p h.below grows inside eg follows;
        from = p.read;
        given = subst (λ l. GivesFrom roster servers first grown v 0 l after p.read) (sym own_is) given;
        inbox_is = em ∙ ap payloads_of (
            ap (λ s. letters_between first log s.number (last_place w log) (length log + 1)) (seats ∙ seat)
            ∙ sym (between_grows first log ((w, p) ∷ []) v.seat.number (last_place w log) (length log + 1) (omega arith))
            ∙ ap (λ l. letters_between first l v.seat.number (last_place w log) (length log + 1)) (sym eg)
            ∙ ap (λ n. letters_between first grown v.seat.number (last_place w log) n) (sym last));
      }
