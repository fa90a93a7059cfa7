use Rattle.dn_notary.proofs.ListingLemmas.{entries_are_list}
use Rattle.dn_notary.proofs.notarizing.notary.Goals as goal

pub signed_list-requires : goal.signed_list-requires
signed_list-requires g c =
    rw c.deref-2.ensures.value (entries_are_list c.deref.result.now c.in-Ok-parse_entries.entries.items c.in-Ok-parse_entries.ensures).few
