-- Where a member is reached: the bytes of its host, and its port.
use Rattle.std.specs.Prelude.{Bool, ◌&&◌, nat_eq}
use Rattle.std.specs.Str.{bytes_eq}
use Rattle.real_io.specs.declared.member_address.MemberAddress.{MemberAddress}

abbrev pub is_same : MemberAddress → MemberAddress → Bool
is_same one other = nat_eq one.port other.port && bytes_eq one.host other.host
