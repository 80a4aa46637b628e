-- What is answered to words, by the bytes of the network file.
use Rattle.std.specs.Prelude.{ℕ, List, Option, Result, Ok, Err}
use Rattle.sq_net.specs.declared.Network.{Network}
use Rattle.sq_net.specs.declared.NetErr.{NetErr}
use Rattle.sq_reader.specs.Networks.{network_in}
use Rattle.sq_teller.specs.declared.KeyWhy.{KeyWhy}
use Rattle.sq_teller.specs.declared.Ending.TheVariants as status
use Rattle.sq_teller.specs.Replies.{Reply, Says, Refuses}
use Rattle.sq_keys.specs.declared.KeysAsked.{KeysAsked}
use Rattle.sq_keys.specs.Keys.{cuts_asked}
use Rattle.sq_keys.specs.Lines.{is_lost, keys_text}

abbrev pub by_cuts : KeysAsked → Network → Result (List (Option ℕ)) (ℕ × KeyWhy) → Reply
by_cuts a n (Ok by) = Says (keys_text n by a.on_time) (is_lost n by a.on_time)
by_cuts a n (Err bad) = Refuses (status.BadKey bad.0 bad.1)

abbrev pub by_network : KeysAsked → Result Network NetErr → Reply
by_network a (Ok n) = by_cuts a n (cuts_asked n.sources a.pairs)
by_network a (Err e) = Refuses (status.BadNetwork e)

abbrev pub reply_of : KeysAsked → List ℕ → Reply
reply_of a bytes = by_network a (network_in bytes)
