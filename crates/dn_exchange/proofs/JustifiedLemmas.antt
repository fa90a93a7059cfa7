-- A body that is due is justified by the record of its round.
use Rattle.std.proofs.Common.{◌≡◌, ◌≢◌, ℕ, suc, ◌<◌, Bool, true, false, List, [], ◌∷◌, length, get_or, cond, Some, None, refl, sym, ap, subst, ◌∙◌, arith, inl, inr}
use Rattle.std.specs.Prelude.{Option, Contains, find, slice_get}
use Rattle.std.proofs.lemmas.Bool.Decides.{eqb_tells}
use Rattle.std.proofs.lemmas.Option.{slice_get_within, slice_get-get_or}
use Rattle.dn_wire.specs.declared.ids.Round.{Round}
use Rattle.dn_wire.specs.declared.ids.SignerId.{SignerId}
use Rattle.dn_wire.specs.declared.ids.SignerId.TheVariants as signers
use Rattle.dn_record_types.specs.declared.body.Body.{Body}
use Rattle.dn_record_types.specs.declared.body.Listed.{Listed}
use Rattle.dn_record_types.specs.declared.inventory.Inventory.{Inventory}
use Rattle.dn_record_types.specs.declared.statement.Statement.{Statement}
use Rattle.dn_record_types.specs.declared.statement.Statement.TheVariants as kinds
use Rattle.dn_seal.specs.Dealt.{server}
use Rattle.dn_layout.specs.Layout.{bits_of}
use Rattle.dn_cert.specs.Chain.{IsLayoutAfter}
use Rattle.dn_server.specs.declared.run.Sum.{Sum}
use Rattle.dn_server.specs.Justified.{Course, AreInventories, IsOutput, Justified, digest_by, server_string}
use Rattle.dn_server.specs.Server.{ServerView, servers_in, is_of, statement_of, WasIncluded, course_of}
use Rattle.dn_bits.specs.Bits.{sum_bits}
use Rattle.dn_rounds.specs.Going.{IsListing, IsSum, IsBodyDue, IsThinDue, turned}
use Rattle.dn_exchange.specs.Disciplined.{IsSaidBy}
use Rattle.dn_rounds.specs.Sound.{InventoriesVerify, StringsFit}
use Rattle.dn_server.proofs.KeptLemmas.{kept_by, statement_said}

found_so : {X : Type 0} (x y : X) (xs : List X) (o : Option X) (b : Bool) → (o ≡ Some y → Contains xs y) → cond b (Some x) o ≡ Some y → Contains (x ∷ xs) y
found_so x y xs o true rest e = (0, omega arith, (cc))
found_so x y xs o false rest e = let h = rest e in (suc h.0, (let lt = h.1 in omega arith), h.2)

-- what is found is there
pub found_there : {X : Type 0} (p : X → Bool) (xs : List X) (y : X) → find p xs ≡ Some y → Contains xs y
found_there p [] y e = cc
found_there p (x ∷ xs) y e = found_so x y xs (find p xs) (p x) (λ h. found_there p xs y h) e

pub servers_differ : (j k : ℕ) → j ≢ k → server j ≢ server k
servers_differ j k n e = n (ap number e)
  where
    number : SignerId → ℕ
    number (signers.Client i) = 0
    number (signers.Server x) = x.0
    number (signers.Slot s) = 0

-- what is kept under the server's own number is what it signed, of this kind
abbrev pub IsOwnSigned : ServerView → ℕ → Type 0
IsOwnSigned v kind = (s : Statement) → statement_of v.run.kept kind v.seat.number ≡ Some s → Contains v.signed s

-- what is kept of a server is said by it
pub said_by : (v : ServerView) (kind j : ℕ) (s : Statement) → IsOwnSigned v kind → statement_of v.run.kept kind j ≡ Some s → IsSaidBy v (server j) s
said_by v kind j s own e =
    let found = statement_said v.run.kept kind j s e in
    elim (eqb_tells j v.seat.number) [
      | inl same ↦ inl (ap server same.1, own s (subst (λ k. statement_of v.run.kept kind k ≡ Some s) same.1 e))
      | inr other ↦ inr (
        servers_differ j v.seat.number other.1,
        (found.0, found_there (is_of kind j) v.run.kept found.0 found.1, kept_by v.run.kept kind j found.0 found.1, found.2),
      )
    ]

-- What is known of the round's record as its body is signed.
pub record IsReady (v : ServerView) (sum : Sum) : Type 0 where
  pub number : v.seat.number < servers_in v
  pub before : v.run.prev.0 < v.run.r.0
  pub layout : List ℕ
  pub after : IsLayoutAfter v.chain v.run.prev.0 layout
  pub bits : v.run.bits ≡ bits_of layout
  pub verify : InventoriesVerify v
  pub strings : StringsFit v
  pub round : (j : ℕ) (inventory : Inventory) → statement_of v.run.kept 3 j ≡ Some (kinds.Inventory inventory) → inventory.r ≡ v.run.r
  pub fits : (j : ℕ) (d : List ℕ) (s : List Bool) → statement_of v.run.kept 4 j ≡ Some (kinds.Commit v.run.r d) → statement_of v.run.kept 5 j ≡ Some (kinds.Reveal v.run.r s)
      → d ≡ digest_by (course_of v.run) j s
  pub listing : IsListing v false sum.listed
  pub summed : IsSum v sum
  pub straight : v.bend ≡ None
  pub own_inventory : IsOwnSigned v 3
  pub own_commit : IsOwnSigned v 4
  pub own_reveal : IsOwnSigned v 5
  pub own_string : statement_of v.run.kept 5 v.seat.number ≡ Some (kinds.Reveal v.run.r sum.s)

reveal_is : (r : Round) (x y : List Bool) → Some (kinds.Reveal r x) ≡ Some (kinds.Reveal r y) → x ≡ y
reveal_is r x y e = cc

-- the inventories of a list are what servers have said
pub heard_by : (v : ServerView) (thin : Bool) (listed : List Listed) → InventoriesVerify v
    → ((j : ℕ) (inventory : Inventory) → statement_of v.run.kept 3 j ≡ Some (kinds.Inventory inventory) → inventory.r ≡ v.run.r) → IsOwnSigned v 3
    → (listing : IsListing v thin listed) → AreInventories (IsSaidBy v) v.seat (course_of v.run) listing.inventories
heard_by v thin listed verify round own listing =
    let kept = listing.kept in
    record {
      each = kept.each;
      said_so = λ x inventory there. said_by v 3 x (kinds.Inventory inventory) own (kept.say x inventory there);
      here = λ k d lt.
          let there = kept.say k (get_or listing.inventories k d) (slice_get-get_or listing.inventories k d lt) in
          (round k (get_or listing.inventories k d) there, (verify k (get_or listing.inventories k d) there).0);
      verify = λ k d lt.
          (verify k (get_or listing.inventories k d)
          (kept.say k (get_or listing.inventories k d) (slice_get-get_or listing.inventories k d lt))).1;
    }

module _ (v : ServerView) (sum : Sum) (b : Body) (ready : IsReady v sum) (due : IsBodyDue v sum b) where
  heard : AreInventories (IsSaidBy v) v.seat (course_of v.run) ready.listing.inventories
  heard = heard_by v false sum.listed ready.verify ready.round ready.own_inventory ready.listing

  abbrev the_body : Body
  the_body = record { version = v.seat.roster.version; r = v.run.r; prev = v.run.prev; thin = false; listed = sum.listed; digests = due.digests; out = sum_bits v.run.bits due.strings }

  -- the digest that goes with a ciphertext
  digest_there : (x : ℕ) (s : List Bool) → slice_get due.strings x ≡ Some s → slice_get due.digests x ≡ Some (digest_by (course_of v.run) x s)
  digest_there x s there =
      let within : x < length due.digests = (let lt = slice_get_within due.strings x s there in omega (arith, due.commits.each, due.reveals.each)) in
      let d = get_or due.digests x [] in
      let is = slice_get-get_or due.digests x [] within in
      is ∙ ap Some (ready.fits x d s (due.commits.say x d is) (due.reveals.say x s there))

  own_there : slice_get due.strings v.seat.number ≡ Some (server_string v.seat (course_of v.run) sum.listed sum.own)
  own_there =
      let within : v.seat.number < length due.strings = omega (arith, ready.number, due.reveals.each) in
      let s = get_or due.strings v.seat.number [] in
      let is = slice_get-get_or due.strings v.seat.number [] within in
      let same = reveal_is v.run.r s sum.s (sym (due.reveals.say v.seat.number s is) ∙ ready.own_string) in
      is ∙ ap Some (same ∙ ready.summed.value ∙ ap (λ o. turned o (server_string v.seat (course_of v.run) sum.listed sum.own)) ready.straight)

  output : IsOutput (IsSaidBy v) (WasIncluded v.run) v.seat (course_of v.run) the_body
  output = record {
    strings = due.strings;
    own = sum.own;
    each = due.reveals.each;
    long = λ k d lt. ready.strings k (get_or due.strings k d) (due.reveals.say k (get_or due.strings k d) (slice_get-get_or due.strings k d lt));
    committed = λ x s there.
        said_by v 4 x (kinds.Commit v.run.r (digest_by (course_of v.run) x s)) ready.own_commit
        (due.commits.say x (digest_by (course_of v.run) x s) (digest_there x s there));
    revealed = λ x s there. said_by v 5 x (kinds.Reveal v.run.r s) ready.own_reveal (due.reveals.say x s there);
    digests = due.commits.each;
    digest = digest_there;
    rows = ready.summed.rows;
    told = ready.summed.told;
    itself = own_there;
    sum = refl;
  }

  abbrev bits_so : ℕ → Course
  bits_so n = record { r = v.run.r; prev = v.run.prev; bits = n }

  the_body_is : Justified (IsSaidBy v) (WasIncluded v.run) v.seat v.chain the_body
  the_body_is = record {
    layout = ready.layout;
    inventories = ready.listing.inventories;
    version = refl;
    before = ready.before;
    after = ready.after;
    floor = sym ready.listing.floor;
    heard = subst (λ n. AreInventories (IsSaidBy v) v.seat (bits_so n) ready.listing.inventories) ready.bits heard;
    trim = ready.listing.trim;
    ending = subst (λ n. IsOutput (IsSaidBy v) (WasIncluded v.run) v.seat (bits_so n) the_body) ready.bits output;
  }

  -- The body that is due is justified.
  pub due_justified : Justified (IsSaidBy v) (WasIncluded v.run) v.seat v.chain b
  due_justified = subst (Justified (IsSaidBy v) (WasIncluded v.run) v.seat v.chain) (sym due.is) the_body_is

-- What is known of the round's record as a body without data is signed.
pub record IsThinReady (v : ServerView) : Type 0 where
  pub before : v.run.prev.0 < v.run.r.0
  pub layout : List ℕ
  pub after : IsLayoutAfter v.chain v.run.prev.0 layout
  pub verify : InventoriesVerify v
  pub round : (j : ℕ) (inventory : Inventory) → statement_of v.run.kept 3 j ≡ Some (kinds.Inventory inventory) → inventory.r ≡ v.run.r
  pub own_inventory : IsOwnSigned v 3

-- The body without data that is due is justified.
pub thin_justified : (v : ServerView) (b : Body) → IsThinReady v → IsThinDue v b → Justified (IsSaidBy v) (WasIncluded v.run) v.seat v.chain b
thin_justified v b ready due =
    subst (Justified (IsSaidBy v) (WasIncluded v.run) v.seat v.chain) (sym due.is) (record {
      layout = ready.layout;
      inventories = due.listing.inventories;
      version = refl;
      before = ready.before;
      after = ready.after;
      floor = sym due.listing.floor;
      heard =
          let h = heard_by v true due.listed ready.verify ready.round ready.own_inventory due.listing in
          record { each = h.each; said_so = h.said_so; here = h.here; verify = h.verify };
      trim = due.listing.trim;
      ending = record { digests = refl; out = refl };
    })
