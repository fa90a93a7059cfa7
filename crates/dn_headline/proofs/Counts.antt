-- How many clients counted in a round, by two chains that hold the same bodies of the same rounds.
use Rattle.std.proofs.Common.{◌≡◌, ◌≢◌, ℕ, List, length, sym, ap, ◌∙◌}
use Rattle.std.specs.Prelude.{Contains}
use Rattle.dn_record_types.specs.declared.body.Body.{Body}
use Rattle.dn_cert.specs.Chain.{ChainView, bodies, LayoutAfter, IsLayoutAfter, count_in, count_at}
use Rattle.dn_cert.specs.Chain.LayoutAfter.{at_first, after_prev}
use Rattle.dn_cert.proofs.CountLemmas.{count_none, count_found}

-- bodies, none of round 0, and one a round
pub record AreSingle (bs : List Body) : Type 0 where
  pub none_first : (b : Body) → Contains bs b → b.r.0 ≢ 0
  pub one_each : (b c : Body) → Contains bs b → Contains bs c → b.r.0 ≡ c.r.0 → b ≡ c

module _ (bs cs : List Body) (single : AreSingle bs) (others : AreSingle cs)
    (same : (b c : Body) → Contains bs b → Contains cs c → b.r.0 ≡ c.r.0 → b ≡ c) where
  first_counts : (r : ℕ) → r ≡ 0 → count_in bs r ≡ count_in cs r
  first_counts r z =
      ap (count_in bs) z ∙ count_none bs 0 single.none_first ∙ sym (count_none cs 0 others.none_first) ∙ ap (count_in cs) (sym z)

  counts_by : (slots more : ℕ) (r : ℕ) (l m : List ℕ) → LayoutAfter slots bs r l → LayoutAfter more cs r m → count_in bs r ≡ count_in cs r
  counts_by slots more r l m (at_first z is) other = first_counts r z
  counts_by slots more r l m (after_prev b before inside at rest is) (at_first z it) = first_counts r z
  counts_by slots more r l m (after_prev b before inside at rest is) (after_prev c after within on less it) =
      ap (count_in bs) (sym at) ∙ count_found bs single.one_each b inside
      ∙ ap (λ (x : Body). length x.listed) (same b c inside within (at ∙ sym on))
      ∙ sym (count_found cs others.one_each c within) ∙ ap (count_in cs) on

-- the counts of a round that two chains have are one, where their bodies are
pub counts_are_one : (chain other : ChainView) (r : ℕ) (l m : List ℕ) → AreSingle (bodies chain) → AreSingle (bodies other)
    → ((b c : Body) → Contains (bodies chain) b → Contains (bodies other) c → b.r.0 ≡ c.r.0 → b ≡ c)
    → IsLayoutAfter chain r l → IsLayoutAfter other r m → count_at chain r ≡ count_at other r
counts_are_one chain other r l m single others same here_ there =
    counts_by (bodies chain) (bodies other) single others same chain.slots other.slots r l m here_ there
