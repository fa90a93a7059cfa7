-- Which draws came in time, and what was collected.
use Rattle.std.proofs.Common.{◌≡◌, ℕ, zero, suc, ◌+◌, ◌<◌, ◌≤◌, List, [], ◌∷◌, ◌++◌, length, map, take, drop, All, Bool, true, false, cond, ◌==◌, refl, sym, ap, ◌∙◌, arith, None, Some, Option, append_assoc, append-nil, take-append-drop}
use Rattle.std.specs.Prelude.{◌||◌}
use Rattle.std.specs.List.{filter}
use Rattle.std.specs.List.Sorted.{IsPermutation}
use Rattle.std.proofs.lemmas.List.Elements.{filter-append}
use Rattle.std.proofs.lemmas.List.{map-append, take-map, drop-map}
use Rattle.dn_counts.specs.Counts.{total, equal, times}
use Rattle.dn_counts.proofs.Sums.{total-append}
use Rattle.dn_told.specs.declared.told.WindowTold.{WindowTold}
use Rattle.dn_told.specs.declared.told.WindowTold.TheVariants.{Included, Late, Repeat}
use Rattle.dn_told.specs.Window.{WindowEvent, Submit, Close, answers, answers_after, told_after, is_closed, is_among, has_submitted}
use Rattle.dn_told.proofs.WindowLemmas.{is_closed-append}
use Rattle.dn_gate.specs.Draws.{Draw}
use Rattle.dn_gate.specs.Order.{in_order, with_number}
use Rattle.dn_gate.specs.History.{submissions, told_at, drawn, repeats_of, IsHistory}
use Rattle.dn_gate.specs.Pass.{PassView}
use Rattle.dn_gate.specs.Collected.{named}
use Rattle.dn_wire.specs.declared.ids.ClientId.{ClientId}
use Rattle.dn_crew.specs.declared.order.Ordered.{Ordered}
use Rattle.dn_crew.specs.declared.order.Ordered.TheVariants as places
use Rattle.dn_crew.specs.declared.sharing.Drawn.{Drawn}
use Rattle.dn_crew.specs.Race.{client_of, numbers_of, in_time}
use Rattle.dn_crew.specs.Shares.{shown, recorded, put_by, is_included, counted, upto, placed_of, repeat_of}
use Rattle.dn_crew.proofs.Totals.{total-map, total-permutation, if_below, if_below_yes, if_below_no, if_below_more, upto_all, times_total}
use Rattle.dn_crew.proofs.OrderLemmas.{in_time_draws}

abbrev tell : Draw → ℕ × WindowTold
tell d = (d.client, told_at d.late)

-- each draw was told so
abbrev pub AllTold : WindowTold → List Draw → Type 0
AllTold t [] = Unit {0}
AllTold t (d ∷ ds) = (told_at d.late ≡ t) × AllTold t ds

in_time_told : (b : Bool) (late : Option ℕ) → cond b Repeat Included ≡ told_at late → told_at late ≡ Included
in_time_told true None e = refl
in_time_told true (Some n) e = absurd (repeat_late e) where
  repeat_late : Repeat ≡ Late → ⊥
  repeat_late h = cc
in_time_told false late e = sym e

too_late_told : (b : Bool) (late : Option ℕ) → cond b Repeat Late ≡ told_at late → told_at late ≡ Late
too_late_told true None e = absurd (repeat_in e) where
  repeat_in : Repeat ≡ Included → ⊥
  repeat_in h = cc
too_late_told true (Some n) e = refl
too_late_told false late e = sym e

open_told : (before : List ℕ) (past : List WindowEvent) (i : ℕ) → is_closed past ≡ false → told_after before past i ≡ cond (is_among before i || has_submitted past i) Repeat Included
unfolding told_after
open_told before past i e = ap (λ b. cond (is_among before i || has_submitted past i) Repeat (cond b Late Included)) e

shut_told : (before : List ℕ) (past : List WindowEvent) (i : ℕ) → is_closed past ≡ true → told_after before past i ≡ cond (is_among before i || has_submitted past i) Repeat Late
unfolding told_after
shut_told before past i e = ap (λ b. cond (is_among before i || has_submitted past i) Repeat (cond b Late Included)) e

still : (past : List WindowEvent) (i : ℕ) (b : Bool) → is_closed past ≡ b → is_closed (past ++ Submit i ∷ []) ≡ b
still past i b e = is_closed-append past (Submit i ∷ []) ∙ or_false (is_closed past) ∙ e where
  or_false : (c : Bool) → (c || false) ≡ c
  or_false true = refl
  or_false false = refl

heads : (a b : ℕ × WindowTold) (xs ys : List (ℕ × WindowTold)) → a ∷ xs ≡ b ∷ ys → (a.1 ≡ b.1) × (xs ≡ ys)
heads a b xs ys e = let h : a ≡ b = cc in (ap (λ p. p.1) h, cc)

-- before the closing each draw is told that it is included
pub front_told : (before : List ℕ) (past : List WindowEvent) (ds : List Draw) (rest : List WindowEvent) (ws : List (ℕ × WindowTold)) → is_closed past ≡ false
    → answers_after before past (submissions ds ++ rest) ≡ map tell ds ++ ws
    → AllTold Included ds × (answers_after before (past ++ submissions ds) rest ≡ ws)
front_told before past [] rest ws c e = (tt, ap (λ p. answers_after before p rest) (append-nil past) ∙ e)
front_told before past (d ∷ ds) rest ws c e =
    let h = heads _ _ _ _ e in
    let k = front_told before (past ++ Submit d.client ∷ []) ds rest ws (still past d.client false c) h.1 in
    let one = in_time_told (is_among before d.client || has_submitted past d.client) d.late (sym (open_told before past d.client c) ∙ h.0) in
    ((one, k.0), ap (λ p. answers_after before p rest) (sym (append_assoc past (Submit d.client ∷ []) (submissions ds))) ∙ k.1)

-- and behind it that it came late
pub back_told : (before : List ℕ) (past : List WindowEvent) (ds : List Draw) (rest : List WindowEvent) (ws : List (ℕ × WindowTold)) → is_closed past ≡ true
    → answers_after before past (submissions ds ++ rest) ≡ map tell ds ++ ws
    → AllTold Late ds
back_told before past [] rest ws c e = tt
back_told before past (d ∷ ds) rest ws c e =
    let h = heads _ _ _ _ e in (
      too_late_told (is_among before d.client || has_submitted past d.client) d.late (sym (shut_told before past d.client c) ∙ h.0),
      back_told before (past ++ Submit d.client ∷ []) ds rest ws (still past d.client true c) h.1,
    )

-- the answers of a history say which draws came in time
pub both_told : (before : List ℕ) (count : ℕ) (ds : List Draw) (rest : List WindowEvent) (ws : List (ℕ × WindowTold))
    → answers before ((submissions (take count ds) ++ Close ∷ submissions (drop count ds)) ++ rest) ≡ map tell ds ++ ws
    → AllTold Included (take count ds) × AllTold Late (drop count ds)
both_told before count ds rest ws e =
    let split : map tell ds ++ ws ≡ map tell (take count ds) ++ (map tell (drop count ds) ++ ws) =
    ap (λ l. map tell l ++ ws) (sym (take-append-drop count ds)) ∙ ap (λ l. l ++ ws) (map-append tell (take count ds) (drop count ds)) ∙ append_assoc (map tell (take count ds)) (map tell (drop count ds)) ws in
    let h = ap (answers before) (sym (append_assoc (submissions (take count ds)) (Close ∷ submissions (drop count ds)) rest)) ∙ e ∙ split in
    let f = front_told before [] (take count ds) (Close ∷ (submissions (drop count ds) ++ rest)) _ refl h in
    let shut : is_closed (submissions (take count ds) ++ Close ∷ []) ≡ true = is_closed-append (submissions (take count ds)) (Close ∷ []) ∙ or_true (is_closed (submissions (take count ds))) in
    (f.0, back_told before (submissions (take count ds) ++ Close ∷ []) (drop count ds) rest ws shut f.1) where
      or_true : (c : Bool) → (c || true) ≡ true
      or_true true = refl
      or_true false = refl

-- a record of draws that were all told so
abbrev pub AllRecorded : WindowTold → List Drawn → Type 0
AllRecorded t [] = Unit {0}
AllRecorded t (x ∷ xs) = (x.told ≡ t) × AllRecorded t xs

module _ (list : List (ClientId × ℕ)) where
  pub recorded_told : (t : WindowTold) (xs : List Drawn) (ds : List Draw) → map (recorded list) xs ≡ map shown ds → AllTold t ds → AllRecorded t xs
  recorded_told t [] [] e a = tt
  recorded_told t [] (d ∷ ds) e a = absurd (let n = ap length e in omega arith)
  recorded_told t (x ∷ xs) [] e a = absurd (let n = ap length e in omega arith)
  recorded_told t (x ∷ xs) (d ∷ ds) e a =
      let s : recorded list x ≡ shown d = cc e in
      (ap (λ r. r.2) s ∙ a.0, recorded_told t xs ds (cc e) a.1)

-- what is counted of the draws that are included
pub kept_all : (g : Drawn → ℕ) (xs : List Drawn) → AllRecorded Included xs → total g (filter (λ d. is_included d.told) xs) ≡ total g xs
kept_all g [] a = refl
kept_all g (x ∷ xs) a = let rest = filter (λ (d : Drawn). is_included d.told) xs in ap (λ t. total g (cond (is_included t) (x ∷ rest) rest)) a.0 ∙ ap (λ n. g x + n) (kept_all g xs a.1)

pub kept_none : (g : Drawn → ℕ) (xs : List Drawn) → AllRecorded Late xs → total g (filter (λ d. is_included d.told) xs) ≡ 0
kept_none g [] a = refl
kept_none g (x ∷ xs) a = let rest = filter (λ (d : Drawn). is_included d.told) xs in ap (λ t. total g (cond (is_included t) (x ∷ rest) rest)) a.0 ∙ kept_none g xs a.1

total-filter : {A : Type 0} (g : A → ℕ) (q : A → Bool) (xs : List A) → total g (filter q xs) ≡ total (λ x. cond (q x) (g x) 0) xs
total-filter {A = A} g q [] = refl
total-filter {A = A} g q (x ∷ xs) = kept (q x) (g x) (filter q xs) (total-filter g q xs) where
  kept : (b : Bool) (n : ℕ) (ys : List A) → total g ys ≡ total (λ x. cond (q x) (g x) 0) xs → total g (cond b (x ∷ ys) ys) ≡ cond b (g x) 0 + total (λ x. cond (q x) (g x) 0) xs
  kept true n ys e = ap (λ m. g x + m) e
  kept false n ys e = omega (arith, e)

-- the numbers of the draws that are included are those of the first
pub included_first : (n count : ℕ) (list : List (ClientId × ℕ)) (draws xs : List Drawn) (ds : List Draw) → IsPermutation draws xs → map (recorded list) xs ≡ map shown ds
    → AllTold Included (take count ds) × AllTold Late (drop count ds)
    → total (λ p. equal p.1 n) (map (put_by list) (filter (λ d. is_included d.told) draws)) ≡ total (λ d. equal d.number n) (take count xs)
included_first n count list draws xs ds perm e told =
    let g : Drawn → ℕ = λ d. equal d.number n in
    let front = kept_all g (take count xs) (recorded_told list Included (take count xs) (take count ds) (sym (take-map (recorded list) count xs) ∙ ap (take count) e ∙ take-map shown count ds) told.0) in
    let back = kept_none g (drop count xs) (recorded_told list Late (drop count xs) (drop count ds) (sym (drop-map (recorded list) count xs) ∙ ap (drop count) e ∙ drop-map shown count ds) told.1) in
    let one = total-map (λ p. equal p.1 n) (put_by list) (filter (λ d. is_included d.told) draws) in
    let two = total-filter g (λ d. is_included d.told) draws in
    let three = total-permutation (λ d. cond (is_included d.told) (g d) 0) draws xs perm in
    let four = total-filter g (λ d. is_included d.told) xs in
    let five = ap (λ l. total g (filter (λ d. is_included d.told) l)) (sym (take-append-drop count xs)) ∙ ap (total g) (filter-append (λ d. is_included d.told) (take count xs) (drop count xs)) in
    let six = total-append g (filter (λ d. is_included d.told) (take count xs)) (filter (λ d. is_included d.told) (drop count xs)) in
    omega (arith, front, back, one, two, three, four, five, six)

abbrev EachBelow : ℕ → List (ℕ × ℕ) → Type 0
EachBelow C [] = Unit {0}
EachBelow C (v ∷ vs) = (v.0 < C) × EachBelow C vs

if_one : (b : Bool) (n : ℕ) → cond {A = ℕ} b n 0 + 0 ≡ cond {A = ℕ} b n 0
if_one b n = omega arith

below_total : (g : ℕ × ℕ → ℕ) (C : ℕ) (vs : List (ℕ × ℕ)) → total g (in_order C vs) ≡ total (λ p. if_below p.0 C (g p)) vs
below_total g zero vs = sym (none_of vs) where
  none_of : (vs : List (ℕ × ℕ)) → total (λ p. if_below p.0 0 (g p)) vs ≡ 0
  none_of [] = refl
  none_of (v ∷ vs) = omega (arith, if_below_no v.0 0 (g v) (omega arith), none_of vs)
below_total g (suc C) vs =
    omega (arith, total-append g (in_order C vs) (with_number C vs), below_total g C vs, total-filter g (λ p. p.0 == C) vs, more vs) where
      more : (vs : List (ℕ × ℕ)) → total (λ p. if_below p.0 (suc C) (g p)) vs ≡ total (λ p. if_below p.0 C (g p)) vs + total (λ p. cond (p.0 == C) (g p) 0) vs
      more [] = refl
      more (v ∷ vs) = omega (arith, if_below_more v.0 C (g v), more vs)

all_below : (g : ℕ × ℕ → ℕ) (C : ℕ) (vs : List (ℕ × ℕ)) → EachBelow C vs → total (λ p. if_below p.0 C (g p)) vs ≡ total g vs
all_below g C [] h = refl
all_below g C (v ∷ vs) h = omega (arith, if_below_yes v.0 C (g v) h.0, all_below g C vs h.1)

client_below : (list : List (ClientId × ℕ)) (C n : ℕ) → 0 < C → All (λ m. m.0.0 < C) list → client_of list n < C
client_below [] C n some h = some
client_below (m ∷ list) C n some h = either (m.1 == n) m.0.0 (client_of list n) (h 0 m (omega arith)) (client_below list C n some (λ k d lt. h (suc k) d (omega arith))) where
  either : (b : Bool) (x y : ℕ) → x < C → y < C → cond b x y < C
  either true x y p q = p
  either false x y p q = q

values_below : (list : List (ClientId × ℕ)) (C : ℕ) (ys : List Drawn) → ((n : ℕ) → client_of list n < C) → EachBelow C (map (put_by list) ys)
values_below list C [] h = tt
values_below list C (y ∷ ys) h = (h y.number, values_below list C ys h)

-- where nobody submits there are no draws
no_draws : (W : ℕ) (draws : List Drawn) (repeats : List ℕ) → 1 ≤ W → ((h : ℕ → ℕ) → counted h draws repeats ≡ upto h 0 W [] W) → draws ≡ []
no_draws W [] repeats some all = refl
no_draws W (d ∷ draws) repeats some all = absurd (let e = all (λ _. 1) in let u = upto_all (λ _. 1) 0 W [] (omega arith) in omega arith)

-- what is collected of the values, added up
pub collected : (g : ℕ × ℕ → ℕ) (list : List (ClientId × ℕ)) (C W : ℕ) (draws : List Drawn) (repeats : List ℕ) → All (λ m. m.0.0 < C) list → 1 ≤ W
    → ((h : ℕ → ℕ) → counted h draws repeats ≡ upto h 0 W list W)
    → total g (in_order C (map (put_by list) (filter (λ d. is_included d.told) draws))) ≡ total g (map (put_by list) (filter (λ d. is_included d.told) draws))
collected g [] C W draws repeats clients some all =
    let none = ap (λ l. map (put_by []) (filter (λ d. is_included d.told) l)) (no_draws W draws repeats some all) in
    below_total g C _ ∙ ap (total (λ p. if_below p.0 C (g p))) none ∙ sym (ap (total g) none)
collected g (m ∷ list) C W draws repeats clients some all =
    let room : 0 < C = omega (arith, clients 0 m (omega arith)) in
    let ys = filter (λ (d : Drawn). is_included d.told) draws in
    below_total g C (map (put_by (m ∷ list)) ys) ∙ all_below g C (map (put_by (m ∷ list)) ys) (values_below (m ∷ list) C ys (λ n. client_below (m ∷ list) C n room clients))

-- the history of a pass tells which of its draws came in time
pub told_of_history : (p : PassView ℕ) (count : ℕ) → IsHistory p → p.closing ≡ Some count → AllTold Included (take count p.draws) × AllTold Late (drop count p.draws)
told_of_history p count h e =
    both_told p.gate.before count p.draws (map (λ r. Submit r.1) (repeats_of p)) (map (λ r. (r.1, Repeat)) (repeats_of p))
    (ap (λ c. answers p.gate.before (drawn c p.draws ++ map (λ r. Submit r.1) (repeats_of p))) (sym e) ∙ h.one_thread)

named_total : (n : ℕ) (ps : List (ℕ × ℕ)) → times n (numbers_of (map named ps)) ≡ total (λ p. equal p.1 n) ps
named_total n ps = times_total n (numbers_of (map named ps)) ∙ total-map (λ x. equal x n) (λ (m : ClientId × ℕ). m.1) (map named ps) ∙ total-map (λ (m : ClientId × ℕ). equal m.1 n) named ps

-- what was collected are the submissions before the closing
pub placed_in_time : (n count C W : ℕ) (list placed : List (ClientId × ℕ)) (p : PassView ℕ) (draws xs : List Drawn) (repeats ns : List ℕ) (order : List Ordered)
    → IsHistory p → p.closing ≡ Some count → All (λ m. m.0.0 < C) list → 1 ≤ W → ((h : ℕ → ℕ) → counted h draws repeats ≡ upto h 0 W list W)
    → p.values ≡ map (put_by list) (filter (λ d. is_included d.told) draws) → placed ≡ map named (in_order C p.values)
    → IsPermutation draws xs → map (recorded list) xs ≡ map shown p.draws
    → order ≡ (map placed_of (take count xs) ++ places.Close ∷ map placed_of (drop count xs)) ++ map repeat_of ns
    → times n (numbers_of placed) ≡ times n (in_time order)
placed_in_time n count C W list placed p draws xs repeats ns order h e clients some all values ep perm same eo =
    let one = ap (λ l. times n (numbers_of l)) ep ∙ named_total n (in_order C p.values) in
    let two = ap (λ l. total (λ v. equal v.1 n) (in_order C l)) values in
    let three = collected (λ v. equal v.1 n) list C W draws repeats clients some all in
    let four = included_first n count list draws xs p.draws perm same (told_of_history p count h e) in
    let five : in_time order ≡ map (λ d. d.number) (take count xs) =
    ap in_time eo ∙ ap in_time (append_assoc (map placed_of (take count xs)) (places.Close ∷ map placed_of (drop count xs)) (map repeat_of ns)) ∙ in_time_draws (take count xs) (map placed_of (drop count xs) ++ map repeat_of ns) in
    let six = ap (times n) five ∙ times_total n (map (λ (d : Drawn). d.number) (take count xs)) ∙ total-map (λ x. equal x n) (λ (d : Drawn). d.number) (take count xs) in
    one ∙ two ∙ three ∙ four ∙ sym six
