-- The request that parts make, wherever they lie.
use Rattle.ajp_request.specs.declared.forward.Forward.{Forward}
use Rattle.ajp_request.specs.declared.forward.ForwardParts.{ForwardParts}

abbrev pub told_by : ForwardParts → Forward
told_by parts = record {
  method = parts.method.now;
  protocol = parts.protocol.now;
  uri = parts.uri.now;
  remote_addr = parts.remote_addr.now;
  remote_host = parts.remote_host.now;
  server = parts.server.now;
  port = parts.port;
  ssl = parts.ssl;
  headers = parts.headers.now;
  attributes = parts.attributes.now;
}
