-- A server as it is made is sound, and one that has just opened a round.
use Rattle.std.proofs.Common.{◌≡◌, ◌+◌, ◌≤◌, ◌<◌, ◌^◌, ℕ, true, false, List, length, Some, None, refl, sym, ap, subst, ◌∙◌, arith, inl, inr}
use Rattle.std.specs.Prelude.{Option, ◌⊎◌, replicate, slice_get}
use Rattle.std.proofs.Common.{get_or}
use Rattle.std.proofs.lemmas.Bool.{cases_lt}
use Rattle.std.proofs.lemmas.List.{length-replicate, get_or-replicate}
use Rattle.std.proofs.lemmas.List.Elements.{All-nil}
use Rattle.std.proofs.lemmas.Option.{slice_get_within, slice_get-get_or}
use Rattle.dn_seal.specs.Said.{SaidView, IsSaid, IsUnder}
use Rattle.dn_server.specs.Keeping.{round_of}
use Rattle.dn_layout.specs.Layout.{bits_of}
use Rattle.dn_wire.specs.declared.ids.Round.{Round}
use Rattle.dn_cert.specs.Chain.{IsLatestBelow, IsLayoutAfter}
use Rattle.dn_lms.specs.Key.{IsKey, leaf_count}
use Rattle.dn_lms.specs.Signature.{public_key}
use Rattle.dn_server.specs.declared.answer.Answer.{Answer}
use Rattle.dn_server.specs.declared.claims.Claim.{Claim}
use Rattle.dn_server.specs.declared.run.Run.{Run}
use Rattle.dn_server.specs.Server.{ServerView}
use Rattle.dn_bits.specs.Bits.{below}
use Rattle.std.proofs.lemmas.List.{length-map}
use Rattle.std.proofs.lemmas.List.FromFn.{length-range_with_len}
use Rattle.dn_roster.specs.declared.group.GroupSpec.{GroupSpec}
use Rattle.dn_roster.specs.Roster.{RosterView, key_of}
use Rattle.dn_seal.specs.Dealt.{server, key_dealt_to, seed_dealt_to}
use Rattle.dn_cert.specs.Certificate.{IsOfRoster}
use Rattle.dn_exchange.specs.Making.{IsGroup, first_server}
use Rattle.dn_exchange.specs.Opening.{Opens, IsOld, IsSmall, fresh_run, expected_by}
use Rattle.dn_exchange.specs.Opening.Opens.{is_old, is_running, is_spent, opens}
use Rattle.dn_exchange.specs.Invariant.{IsSound, IsRunning, IsCourse, standing_of}

-- nobody has a claim yet
pub none_claimed : (n i : ℕ) (c : Claim) → slice_get (replicate n (let none : Option Claim = None in none)) i ≡ Some (Some c) → ⊥
none_claimed n i c e =
    let none : Option Claim = None in
    let within = slice_get_within (replicate n none) i (Some c) e in
    let long = length-replicate n none in
    let there = slice_get-get_or (replicate n none) i none within in
    let is = get_or-replicate n i none none (omega arith) in
    apart (sym is ∙ some_is (get_or (replicate n none) i none) (Some c) (sym there ∙ e))
  where
    apart : None ≡ Some c → ⊥
    apart h = cc

    some_is : (a b : Option Claim) → Some a ≡ Some b → a ≡ b
    some_is a b h = cc

-- a round that was opened just now
module _ (v : ServerView) (r prev : Round) (layout : List ℕ) (s : IsSound v) (new : ¬ IsOld v r) (small : r.0 < 2 ^ 64) (latest : IsLatestBelow v.chain r.0 prev.0)
    (after : IsLayoutAfter v.chain prev.0 layout) (few : bits_of layout ≤ 65536) (leaves : 4 + length v.signed ≤ leaf_count v.key) where
  abbrev fresh : ServerView
  fresh = record v { aside = 4; run = fresh_run (length v.seat.roster.clients) (expected_by v.seat) r prev (bits_of layout) }

  first : prev.0 ≤ 0 → prev.0 < r.0
  first z = elim (cases_lt v.run.r.0 r.0) [ inl lt ↦ omega (arith, z, lt) | inr ge ↦ absurd (new (inl ge)) ]

  course : IsCourse v.chain r prev (bits_of layout)
  course = record {
    before = elim latest.held [ inl z ↦ first (omega (arith, z)) | inr h ↦ h.1 ];
    small = small;
    layout = layout;
    after = after;
    bits_are = refl;
    few = few;
    unheld = λ h. new (inr h);
  }

  runs : IsRunning (standing_of fresh)
  runs = record {
    course = course;
    kept = record { round = All-nil (λ (x : SaidView). round_of x.statement ≡ Some r); said = All-nil IsSaid; under = All-nil (IsUnder v.seat.roster) };
    inventories = λ j inventory e. absurd (nothing e);
    strings = λ j x e. absurd (nothing e);
    stage = tt;
  }
    where
      nothing : {A : Type 0} {x : A} → None ≡ Some x → ⊥
      nothing e = cc

  pub fresh_sound : IsSound fresh
  fresh_sound = record {
    seated = record { roster = s.seated.roster; number = s.seated.number; seeds = s.seated.seeds };
    member = s.member;
    is_key = s.is_key;
    workers = s.workers;
    slots = s.slots;
    in_group = s.in_group;
    window = length-replicate (length v.seat.roster.clients) false;
    claims = length-replicate (length v.seat.roster.clients) (let none : Option Claim = None in none);
    are_claims = λ i c e. absurd (none_claimed (length v.seat.roster.clients) i c e);
    claimed = λ i c e. absurd (none_claimed (length v.seat.roster.clients) i c e);
    is_open = λ e. (refl, refl);
    round = All-nil (λ (x : SaidView). round_of x.statement ≡ Some r);
    aside = λ b. leaves;
    some_aside = λ b e. omega arith;
    running = λ e. runs;
  }

pub opens_sound : (v : ServerView) (r : Round) (a : Answer) (w : ServerView) → IsSound v → Opens v r a w → (w.run ≡ v.run) ⊎ IsSmall w.run → IsSound w
opens_sound v r a w s (is_old o e f) few = subst IsSound (sym f) s
opens_sound v r a w s (is_running o g e f) few = subst IsSound (sym f) s
opens_sound v r a w s (is_spent o g l e f) few = subst IsSound (sym f) s
opens_sound v r a w s (opens prev layout new idle leaves latest after e f) few =
    let small : IsSmall w.run = elim few [ inl same ↦ absurd (apart (sym (ap (λ (x : ServerView). x.run.is_running) f) ∙ ap (λ (x : Run). x.is_running) same ∙ idle)) | inr h ↦ h ] in
    let there = subst (λ (x : ServerView). IsSmall x.run) f small in
    subst IsSound (sym f) (fresh_sound v r prev layout s new there.1 latest after there.0 (omega (arith, leaves)))
  where
    apart : true ≡ false → ⊥
    apart h = cc

-- a server as it is made
pub first_sound : (group : GroupSpec) (roster : RosterView) (j workers : ℕ) → IsGroup group roster → j < group.servers → 1 ≤ workers → workers ≤ 16
    → key_of roster (server j) ≡ Some (public_key (key_dealt_to group (server j))) → IsKey (key_dealt_to group (server j)) → IsSound (first_server group roster j workers)
first_sound group roster j workers is lt low high member key = record {
  member = member;
  is_key = key;
  seated = record { roster = is.is; number = omega (arith, lt, is.servers); seeds = length-map (below group.clients) (λ (i : ℕ). seed_dealt_to group i j) ∙ length-range_with_len 0 group.clients ∙ sym is.clients };
  workers = (low, high);
  slots = sym is.clients;
  in_group = All-nil (IsOfRoster roster);
  window = length-replicate group.clients false ∙ sym is.clients;
  claims = length-replicate group.clients (let none : Option Claim = None in none) ∙ sym is.clients;
  are_claims = λ i c e. absurd (none_claimed group.clients i c e);
  claimed = λ i c e. absurd (none_claimed group.clients i c e);
  is_open = λ e. absurd (apart e);
  round = All-nil (λ (x : SaidView). round_of x.statement ≡ Some (let first : Round = record { 0 = 0 } in first));
  aside = λ b. omega arith;
  some_aside = λ b e. absurd (apart e);
  running = λ e. absurd (apart (sym e));
}
  where
    apart : true ≡ false → ⊥
    apart h = cc
