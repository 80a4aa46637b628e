-- What a number makes leads to a replay, or to the rule that it breaks.
use Rattle.std.proofs.Common.{◌≡◌, ◌≢◌, ◌⊎◌, inl, inr, ℕ, ◌+◌, ◌≤◌, false, List, [], ◌∷◌, ◌++◌, length, drop, refl, ap, ap₂, sym, ◌∙◌, subst, Some}
use Rattle.std.specs.Prelude.{slice_get, Result, Ok, Err}
use Rattle.std.proofs.lemmas.List.{drop_all, drop_more}
use Rattle.std.proofs.lemmas.Option.{get_or_from_slice_get, slice_get_within}
use Rattle.sq_value.specs.declared.Tuple.{Tuple}
use Rattle.sq_net.specs.declared.NetErr.{NetErr}
use Rattle.sq_net.specs.declared.NetErr.TheVariants as net
use Rattle.sq_net.specs.declared.Network.{Network}
use Rattle.sq_net.specs.declared.Source.{Source}
use Rattle.sq_gen.specs.declared.Made.{Made}
use Rattle.sq_gen.specs.Files.{made_of}
use Rattle.sq_plan.specs.Plans.{Entries}
use Rattle.sq_reader.specs.Networks.{network_in}
use Rattle.sq_replay.specs.declared.why.Why.{Why}
use Rattle.sq_replay.specs.Entries.{capacities_in}
use Rattle.sq_replay.specs.Streams.{stream_in}
use Rattle.sq_tables.specs.Refusals.{is_memory}
use Rattle.sq_status.specs.declared.Status.{Status}
use Rattle.sq_status.specs.declared.Status.TheVariants as status
use Rattle.sq_work.specs.Generation.{HasBadMade, HasBadStreams}
use Rattle.sq_status.specs.Messages.{name_at, source_name_in, network_if_ok}
use Rattle.sq_work.specs.Scripts.{Done, AcceptedReplay, Script, Stops, after_stream, made_limits, made_script, made_sources, made_streams, made_unread, with_sources}
use Rattle.sq_work.specs.Refusals.{IsRefusedBy, HasBadLine}

-- the source at a place, where those before it were read
module _ (bytes : List ℕ) (all : List Source) (vs : List (List Tuple)) (i : ℕ) (s : Source) (at : slice_get all i ≡ Some s) (counted : length vs ≡ i)
    (leads : (r : AcceptedReplay) → made_streams bytes (with_sources r []) all ≡ made_streams bytes (with_sources r vs) (drop i all)) where
  abbrev made_next : AcceptedReplay → List Tuple → Script
  made_next r xs = made_streams bytes (with_sources r (vs ++ xs ∷ [])) (drop (i + 1) all)

  made_here : (r : AcceptedReplay) (e : Result (List Tuple) (ℕ × Why)) → stream_in s.schema bytes ≡ e
      → made_streams bytes (with_sources r []) all ≡ after_stream (length vs) (made_next r) e
  made_here r e said =
      let left : drop i all ≡ s ∷ drop (i + 1) all = drop_more all i s (slice_get_within all i s at) ∙ ap (λ (x : Source). x ∷ drop (i + 1) all) (get_or_from_slice_get all i s s at) in
      leads r ∙ ap (made_streams bytes (with_sources r vs)) left ∙ ap (after_stream (length vs) (made_next r)) said

  pub made_on : (xs : List Tuple) → stream_in s.schema bytes ≡ Ok xs → (r : AcceptedReplay)
      → made_streams bytes (with_sources r []) all ≡ made_streams bytes (with_sources r (vs ++ xs ∷ [])) (drop (i + 1) all)
  made_on xs said r = made_here r (Ok xs) said

  pub made_all : (xs : List Tuple) → stream_in s.schema bytes ≡ Ok xs → length all ≤ i + 1 → (r : AcceptedReplay)
      → made_streams bytes (with_sources r []) all ≡ Done (with_sources r (vs ++ xs ∷ []))
  made_all xs said last r = made_on xs said r ∙ ap (made_streams bytes (with_sources r (vs ++ xs ∷ []))) (drop_all (i + 1) all last)

  pub made_bad : (number : ℕ) (result : Status) (source : List ℕ) → number ≡ length vs → HasBadLine number s bytes result source → HasBadStreams bytes all result source
  made_bad number result source here (inl memory) = inl memory
  made_bad number result source here (inr (line, why, said, bad)) =
      inr (number, s, line, why, ap (slice_get all) (here ∙ counted) ∙ at, (λ r. made_here r (Err (line, why)) said ∙ ap (λ k. Stops (status.BadStream k line why)) (sym here)), bad)

module _ (number rows : ℕ) (made : Made) (is : made ≡ made_of number rows) where
  -- it breaks a rule
  made_refused : (s : Status) (source : List ℕ) → HasBadMade number rows s source → (t : Status) → t ≡ s → HasBadMade number rows t source
  made_refused s source bad t e = subst (λ x. HasBadMade number rows x source) (sym e) bad

  script_is : (x : Script) → made_script number made ≡ x → made_script number (made_of number rows) ≡ x
  script_is x e = ap (made_script number) (sym is) ∙ e

  pub bad_network : (e : NetErr) (result : Status) → IsRefusedBy e result → (is_memory e ≡ false → network_in made.net ≡ Err e) → HasBadMade number rows result []
  bad_network e result (inl memory) said = inl memory.1
  bad_network e result (inr rule) said =
      made_refused (status.BadNetwork e) []
      (inr (rule.0, script_is (Stops (status.BadNetwork e)) (ap (made_limits number made) (said (no_memory e rule.0))), tt)) result rule.1
    where
      no_memory : (e : NetErr) → e ≢ net.Memory → is_memory e ≡ false
      no_memory net.Memory h = absurd (h refl)
      no_memory e h = refl

  module _ (n : Network) (named : network_in made.net ≡ Ok n) where
    pub bad_capacities : (result : Status) → (result ≡ status.Memory) ⊎ ((line : ℕ) × (capacities_in made.capacities ≡ Err line) × (result ≡ status.BadCapacities line))
        → HasBadMade number rows result []
    bad_capacities result (inl memory) = inl memory
    bad_capacities result (inr (line, said, bad)) =
        made_refused (status.BadCapacities line) []
        (inr (tt, script_is (Stops (status.BadCapacities line)) (ap (made_limits number made) named ∙ ap (made_sources number made.stream n) said), tt)) result bad

    module _ (entries : Entries) (limited : capacities_in made.capacities ≡ Ok entries) where
      script_then : made_script number (made_of number rows) ≡ made_streams made.stream (made_unread number n entries) n.sources
      script_then = script_is (made_streams made.stream (made_unread number n entries) n.sources) (ap (made_limits number made) named ∙ ap (made_sources number made.stream n) limited)

      pub bad_streams : (result : Status) (source : List ℕ) → HasBadStreams made.stream n.sources result source → HasBadMade number rows result source
      bad_streams result source (inl memory) = inl memory
      bad_streams result source (inr (at, s, line, why, there, leads, bad)) =
          let found : network_in (made_of number rows).net ≡ Ok n = ap (λ (m : Made). network_in m.net) (sym is) ∙ named in
          let name : source ≡ name_at at (network_if_ok (network_in (made_of number rows).net)) = bad.1 ∙ sym (ap (λ o. name_at at (network_if_ok o)) found ∙ ap source_name_in there) in
          made_refused (status.BadStream at line why) source (inr (tt, script_then ∙ leads (made_unread number n entries), name)) result bad.0

      -- or it is accepted
      pub made_accepted : (vs : List (List Tuple)) (picks text : List ℕ) → picks ≡ [] → text ≡ []
          → ((r : AcceptedReplay) → made_streams made.stream (with_sources r []) n.sources ≡ Done (with_sources r vs))
          → made_script number (made_of number rows) ≡ Done (record (with_sources (made_unread number n entries) vs) { picks = picks; text = text })
      made_accepted vs picks text none no-text leads =
          script_then ∙ leads (made_unread number n entries) ∙ ap₂ (λ ps ts. Done (record (with_sources (made_unread number n entries) vs) { picks = ps; text = ts })) (sym none) (sym no-text)
