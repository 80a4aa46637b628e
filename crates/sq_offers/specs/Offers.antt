-- The order of steps: by what they lose for their gain.
use Rattle.std.specs.Prelude.{Bool, ◌*◌, nat_lt}
use Rattle.sq_offers.specs.declared.offers.Offer.{Offer}

abbrev pub is_cheaper_offer : Offer → Offer → Bool
is_cheaper_offer a b = nat_lt (a.loss * b.gain) (b.loss * a.gain)
