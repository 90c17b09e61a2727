-- A message as numbers loses nothing.
use mathlib.Core.Bool.{true, false}
use mathlib.Core.Path.{◌≡◌, refl}
use Rattle.protocol.specs.declared.message.ControlReply.TheVariants.{Created, Finished, Removed}
use Rattle.protocol.specs.declared.message.Message.{Message}
use Rattle.protocol.specs.declared.message.Message.TheVariants as Msg
use Rattle.protocol_laws.proofs.CodeRounds.{mode_known, error_known, op_known}
use Rattle.gateway.specs.Numbers.{number_of, fields_of, message_from, is_message, message_of, fits}
use Rattle.std.specs.Prelude.{Some, None}

-- every message is the one that its numbers mean, an opaque one too
pub message_back : (m : Message) → message_from (number_of m) (fields_of m) ≡ m
unfolding message_from
message_back (Msg.Startup version database mode fingerprint claims) = simp (mode_known mode)
message_back (Msg.Ready version fingerprint predicates) = refl
message_back (Msg.Error code text) = simp (error_known code)
message_back (Msg.Complete first second) = refl
message_back (Msg.Ids count) = refl
message_back (Msg.Types count) = refl
message_back (Msg.Control op database true schema) = simp (op_known op)
message_back (Msg.Control op database false schema) = simp (op_known op)
message_back (Msg.Reply (Created instance)) = refl
message_back (Msg.Reply (Finished fingerprint facts bytes true)) = refl
message_back (Msg.Reply (Finished fingerprint facts bytes false)) = refl
message_back (Msg.Reply Removed) = refl
message_back (Msg.Profile steps) = refl
message_back (Msg.Page limit cursor query) = refl
message_back (Msg.Fetch None count) = refl
message_back (Msg.Fetch (Some digest) count) = refl
message_back (Msg.ListingDigest predicate digest) = refl
message_back (Msg.Opaque payload) = refl

-- and the tests let each of the twelve through
numbers_fit : (m : Message) → fits m ≡ true → is_message (number_of m) (fields_of m) ≡ true
unfolding is_message
numbers_fit (Msg.Startup version database mode fingerprint claims) h = simp (h, mode_known mode)
numbers_fit (Msg.Ready version fingerprint predicates) h = h
numbers_fit (Msg.Error code text) h = simp (error_known code)
numbers_fit (Msg.Complete first second) h = refl
numbers_fit (Msg.Ids count) h = refl
numbers_fit (Msg.Types count) h = refl
numbers_fit (Msg.Control op database true schema) h = simp (op_known op)
numbers_fit (Msg.Control op database false schema) h = simp (op_known op)
numbers_fit (Msg.Reply (Created instance)) h = refl
numbers_fit (Msg.Reply (Finished fingerprint facts bytes true)) h = refl
numbers_fit (Msg.Reply (Finished fingerprint facts bytes false)) h = refl
numbers_fit (Msg.Reply Removed) h = refl
numbers_fit (Msg.Profile steps) h = refl
numbers_fit (Msg.Page limit cursor query) h = refl
numbers_fit (Msg.Fetch None count) h = refl
numbers_fit (Msg.Fetch (Some digest) count) h = refl
numbers_fit (Msg.ListingDigest predicate digest) h = h
numbers_fit (Msg.Opaque payload) h = h

pub message_found : (m : Message) → fits m ≡ true → message_of (number_of m) (fields_of m) ≡ Some m
unfolding message_of
message_found m h = rw (numbers_fit m h, message_back m)
