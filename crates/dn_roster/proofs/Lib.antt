pub mod DealingLemmas
pub mod RosterLemmas
pub mod OwnersLemmas
pub mod OneOwnersList
