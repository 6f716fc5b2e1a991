-- A reach over pooled links may go to another thread with its dial, its tape and its links, and so may one that is watched.
use denote.RattleType.{RattleType}
use denote.Param.Send.{IsSend, IsSync, sendable, view_send}
use denote.Param.SendFields.{as_row_send, as_row_sync, declared_send, declared_sync, owner_send, variants_send, variants_sync}
use Rattle.std.proofs.Crossing.{Box-send}
use Rattle.std.proofs.option.Option.TheSendSync.{the_field_send as Option-field}
use Rattle.std.specs.contracts.snapshot.Snapshot.{the_row as snapshot_row, the_type as snapshot_type}
use Rattle.conn_pool.specs.contracts.pooled.PooledReach.{the_row}
use Rattle.conn_pool.specs.contracts.pooled.PooledReach.TheInside.{the_row as inside_row, the_type}
use Rattle.conn_pool.specs.contracts.watched_reach.WatchedReach.{the_row as watched_row}
use Rattle.conn_pool.specs.contracts.watched_reach.WatchedReach.TheInside.{the_row as watched_inside, the_type as watched_type}
use Rattle.site_config.proofs.config.Config.TheSendSync.{the_sync as Config-sync}
use Rattle.conn_pool.proofs.keeping.Pools.TheSendSync.{the_sync as Pools-sync}
use Rattle.conn_pool.proofs.idle.Idle.TheSendSync.{the_send as Idle-send, the_sync as Idle-sync}
use Rattle.conn_pool.proofs.pool.Home.TheSendSync.{the_send as Home-send}

snapshot_send : (R : RattleType) → IsSend R → IsSend (snapshot_row R)
snapshot_send R s = owner_send (snapshot_type R) (search (sendable, as_row_send, declared_send) depth 20) (λ d. tt) (λ k x w. tt)

-- the fields of the reach: its pools, its dial, its tape, the link that is lent, the one that was handed in, and a count
inside_send : (p r : _) (G T R L B : RattleType) (d l m t : _) → IsSend G → IsSend T → IsSync R → IsSend L → IsSend (inside_row p r G T R L B d l m t)
inside_send p r G T R L B d l m t dial tape here link =
    declared_send (the_type p r G T R L B d l m t) (
      search (sendable, as_row_send, Pools-sync, as_row_sync, declared_send, declared_sync, variants_send, variants_sync, Idle-send, Idle-sync) depth 20,
      (
        search (sendable, as_row_send) depth 20,
        (
          search (sendable, as_row_send) depth 20,
          (
            search (sendable, as_row_send, declared_send, Option-field, Box-send, snapshot_send) depth 20,
            (
              search (sendable, as_row_send, declared_send, Option-field, Home-send, Idle-send, snapshot_send) depth 20,
              (search (sendable, as_row_send) depth 20, tt),
            ),
          ),
        ),
      ),
    )

reach_send : (p r : _) (G T R L B : RattleType) (d l m t : _) → IsSend G → IsSend T → IsSync R → IsSend L → IsSend (the_row p r G T R L B d l m t)
reach_send p r G T R L B d l m t dial tape here link = view_send (inside_row p r G T R L B d l m t) _ _ _ _ (inside_send p r G T R L B d l m t dial tape here link)

-- the fields of the watched reach: the reach, its pools, its site, and its watch
watched_fields : (p r : _) (G T R L B : RattleType) (d l m t : _) → IsSend G → IsSend T → IsSync R → IsSend L → IsSend (watched_inside p r G T R L B d l m t)
watched_fields p r G T R L B d l m t dial tape here link =
    declared_send (watched_type p r G T R L B d l m t) (
      reach_send p r G T R L B d l m t dial tape here link,
      (
        search (sendable, as_row_send, Pools-sync, as_row_sync, declared_send, declared_sync, variants_send, variants_sync, Idle-send, Idle-sync) depth 20,
        (
          search (sendable, as_row_send, Config-sync) depth 20,
          (search (sendable, as_row_send, declared_send, Option-field) depth 20, tt),
        ),
      ),
    )

pub watched_send : (p r : _) (G T R L B : RattleType) (d l m t : _) → IsSend G → IsSend T → IsSync R → IsSend L → IsSend (watched_row p r G T R L B d l m t)
watched_send p r G T R L B d l m t dial tape here link = view_send (watched_inside p r G T R L B d l m t) _ _ _ _ (watched_fields p r G T R L B d l m t dial tape here link)
